use Rattle.std.proofs.Common.{vec_len, ◌++◌, ◌≡◌}
use Rattle.nc_poly.proofs.heap.fill.Given as goal

abbrev pub invariant-loop-term : goal.invariant-loop-term
invariant-loop-term l = l.left.items ++ l.sum ≡ l.initial.left.items

abbrev pub decreases-loop-term : goal.decreases-loop-term
decreases-loop-term l = vec_len l.left
