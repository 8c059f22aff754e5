-- Where more is given, more is needed. So what an item or numbers need is what is needed for the
-- marks of the entries that they name, and one sweep serves items, claims, and lists of needed
-- entries.
use Rattle.nc_cofactor.specs.Terms.{IsNeeded}
use Rattle.nc_theory.specs.States.{Entry}
use Rattle.std.proofs.Common.{List, ℕ}

module _ (entries : List Entry) (Given More : ℕ → Type 0) (more : (j : ℕ) → Given j → More j) where
  pub need_more : {j : ℕ} → IsNeeded entries Given j → IsNeeded entries More j
  need_more (IsNeeded.given {j = j} g) = IsNeeded.given (more j g)
  need_more (IsNeeded.through needed e at m) = IsNeeded.through (need_more needed) e at m
