use Rattle.nc_algebra.specs.Sums.{Term}
use Rattle.nc_algebra.specs.Words.{Word}
use Rattle.nc_index.specs.Pairs.{HasRegularAfter}
use Rattle.std.proofs.Common.{Some, slice_get, ℕ, ◌<◌, ◌≡◌}
use Rattle.nc_reduce.proofs.touch.touches.Given as goal

abbrev pub invariant-loop-term : goal.invariant-loop-term
invariant-loop-term l =
    (k : ℕ) (t : Term Word) → k < l.term-index → slice_get l.term-items k ≡ Some t
    → ¬ HasRegularAfter l.leads l.after t.key l.bound
