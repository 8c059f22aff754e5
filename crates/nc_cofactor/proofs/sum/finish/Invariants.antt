use Rattle.std.proofs.Common.{length, ◌++◌, ◌≡◌}
use Rattle.nc_cofactor.proofs.sum.finish.Given as goal

abbrev pub invariant-loop-at : goal.invariant-loop-at
invariant-loop-at l = l.terms.items ++ l.sum ≡ l.initial.sum

abbrev pub decreases-loop-at : goal.decreases-loop-at
decreases-loop-at l = length l.sum
