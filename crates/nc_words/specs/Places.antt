-- Where a word occurs in a word, as a search from a place on finds it.
--
-- Places count from 0. An empty word occurs at each place, the end included.
use Rattle.nc_algebra.specs.Words.{OccursAt, Word}
use Rattle.std.specs.Prelude.{None, Option, Some, ℕ, ◌≤◌}

-- the least place at or after `from` where v stands in w, and None exactly where there is none
abbrev pub IsPlaceFrom : Word → Word → ℕ → Option ℕ → Type 0
IsPlaceFrom v w from None = (q : ℕ) → from ≤ q → ¬ OccursAt v w q
IsPlaceFrom v w from (Some q) =
    (from ≤ q) × OccursAt v w q × ((r : ℕ) → from ≤ r → OccursAt v w r → q ≤ r)
