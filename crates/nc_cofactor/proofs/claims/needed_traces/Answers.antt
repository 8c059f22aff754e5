use Rattle.nc_cofactor.proofs.Marks.{only_marked}
use Rattle.nc_cofactor.proofs.Numbered.{are_needed}
use Rattle.nc_cofactor.specs.Claims.{AreNeededTraces}
use Rattle.nc_cofactor.specs.Needed.{AreNumbered}
use Rattle.std.proofs.Common.{Bool, Contains, List, false, subst, sym, ◌≡◌}
use Rattle.std.proofs.lemmas.Result.{IfOk-weaker}
use Rattle.std.specs.List.{All}
use Rattle.nc_cofactor.proofs.claims.needed_traces.Goals as goal

pub returns : goal.returns
returns c =
    IfOk-weaker c.numbered.result (λ l. AreNumbered c.in_ok-stack.stack.items l.items)
    (λ l. AreNeededTraces c.args.snapshot.now.problem.problem c.args.snapshot.now.handled
    c.args.numbers.now l.items)
    (λ l a. are_needed c.args.snapshot.now.problem c.recall_rule.ensures.snapshot.problem
    c.args.snapshot.now.handled c.args.numbers.now c.mark_numbers.new.marks
    (λ k d within. (c.requires.listed k d within).0)
    (only_marked c.as_mut_slice-marks.result.now c.mark_numbers.new.marks
    (Contains c.args.numbers.now) (subst (λ (l : List Bool). All (λ mark. mark ≡ false) l)
    (sym c.as_mut_slice-marks.ensures.value) c.in_ok-kept.ensures.unmarked)
    c.mark_numbers.ensures)
    c.in_ok-stack.stack.items l.items c.in_ok-stack.ensures a)
    c.numbered.ensures
