use Rattle.nc_text.proofs.ReadProblems.{is_problem}
use Rattle.nc_text.proofs.problem.read_problem.Goals as goal

pub of-requires-clause-problem : goal.of-requires-clause-problem
of-requires-clause-problem c =
    let start = rw c.of-text.ensures at c.in_ok-setting.ensures in
    is_problem _ _ _ _ _ _ _ start c.in_ok-bound.ensures.reads c.in_ok-steps.ensures
