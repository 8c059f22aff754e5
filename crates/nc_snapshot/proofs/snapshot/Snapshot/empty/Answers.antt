use Rattle.nc_algebra.specs.Problems.{IsProblem}
use Rattle.nc_snapshot.proofs.Steps.{nothing_stands}
use Rattle.nc_snapshot.proofs.snapshot.Snapshot.empty.Goals as goal
use Rattle.std.proofs.Common.{subst}

pub invariant_of-result : goal.invariant_of-result
invariant_of-result c =
    nothing_stands c.args.problem.value c.empty.result
    (subst IsProblem c.deref.ensures c.recall_rule.ensures.problem) c.empty.ensures
