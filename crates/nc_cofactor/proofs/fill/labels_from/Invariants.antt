use Rattle.nc_cofactor.proofs.Filling.{AreFilledTo}
use Rattle.std.proofs.Common.{vec_len}
use Rattle.nc_cofactor.proofs.fill.labels_from.Given as goal

abbrev pub invariant-loop-slot : goal.invariant-loop-slot
invariant-loop-slot l =
    AreFilledTo l.snapshot.problem.problem l.snapshot.handled l.fn.marks l.stack.items
    l.labels.items l.limit

abbrev pub decreases-loop-slot : goal.decreases-loop-slot
decreases-loop-slot l = vec_len l.stack
