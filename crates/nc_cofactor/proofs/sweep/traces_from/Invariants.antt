use Rattle.nc_cofactor.proofs.Needing.{IsWayOf}
use Rattle.nc_cofactor.proofs.sweep.traces_from.Given as goal

abbrev pub invariant-loop-left : goal.invariant-loop-left
invariant-loop-left l =
    IsWayOf l.snapshot.problem.problem l.snapshot.handled l.initial.marks l.left l.marks
    l.stack.items

abbrev pub decreases-loop-left : goal.decreases-loop-left
decreases-loop-left l = l.left
