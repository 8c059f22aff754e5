-- The same as what holds of every window, by recursion on the lists, as proofs use it. No public
-- clause cites this module.
use Rattle.nc_algebra.specs.Monomials.{Sig, compare_sigs}
use Rattle.nc_window.specs.Rows.{LacksGeneration}
use Rattle.nc_window.specs.Windows.{Row}
use Rattle.std.specs.declared.cmp.Ordering.TheVariants.{Less}
use Rattle.std.specs.Prelude.{List, [], cond, nat_eq, nat_lt, ℕ, ◌+◌, ◌<◌, ◌∷◌, ◌≡◌}

-- 1 where the two are the same number, and 0 otherwise
abbrev pub same : ℕ → ℕ → ℕ
same i j = cond (nat_eq i j) 1 0

-- how often this number stands in the list
abbrev pub times : ℕ → List ℕ → ℕ
times i [] = 0
times i (j ∷ js) = same j i + times i js

module _ {T : Type 0} where
  -- how many rows have this index
  abbrev pub uses : ℕ → List (Row T) → ℕ
  uses i [] = 0
  uses i (r ∷ rs) = same r.index i + uses i rs

  -- each index below the capacity is free or a row's, once, and no other number is
  abbrev pub AreParts : ℕ → List (Row T) → List ℕ → Type 0
  AreParts capacity live free =
      (i : ℕ) → times i free + uses i live ≡ cond (nat_lt i capacity) 1 0

  -- the signature is less than that of each row
  abbrev pub IsBelowAll : Sig → List (Row T) → Type 0
  IsBelowAll σ [] = Unit
  IsBelowAll σ (r ∷ rs) = (compare_sigs σ r.signature ≡ Less) × IsBelowAll σ rs

  -- the signatures ascend strictly
  abbrev pub IsAscending : List (Row T) → Type 0
  IsAscending [] = Unit
  IsAscending (r ∷ rs) = IsBelowAll r.signature rs × IsAscending rs

  -- each row has a generation of its own, which is not 0
  abbrev pub HaveGenerations : List (Row T) → Type 0
  HaveGenerations [] = Unit
  HaveGenerations (r ∷ rs) =
      (0 < r.generation) × LacksGeneration rs r.generation × HaveGenerations rs
