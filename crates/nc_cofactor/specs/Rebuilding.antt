-- The entries that an item is made again from, and what is reduced over them.
--
-- The entries ascend by signature, so those below τ are the first m. Over them the item's own
-- signature is handled as it was in the run. An item was not settled then, so there is something to
-- reduce.
use Rattle.nc_algebra.specs.Elements.{IsLess, Setting}
use Rattle.nc_algebra.specs.Monomials.{Monomial}
use Rattle.nc_algebra.specs.Polynomials.{Polynomial}
use Rattle.nc_reduce.specs.Starts.{IsStartAt, start_polynomial}
use Rattle.nc_theory.specs.Rebuilding.{IsAtLeast}
use Rattle.nc_theory.specs.Runs.{Starts}
use Rattle.nc_theory.specs.States.{Entry, Start}
use Rattle.std.specs.Prelude.{Contains, List, drop, length, take, ℕ, ◌≤◌}

-- of the entries exactly the first m have a signature below τ
pub record AreLesser (s : Setting) (entries : List Entry) (τ : Monomial) (m : ℕ) : Type 0 where
  pub few : m ≤ length entries
  pub lesser : (e : Entry) → Contains (take m entries) e → IsLess s e.signature τ
  pub others : (e : Entry) → Contains (drop m entries) e → IsAtLeast s τ e

-- over the first m entries something is reduced at τ: τ is not settled there
abbrev pub HasStart : Setting → List Entry → Monomial → ℕ → Type 0
HasStart s entries τ m = (f : Polynomial) × (start : Start) × Starts s (take m entries) τ f start

-- a start with signature τ, and what is reduced there over the first m entries
pub record IsStartOver (s : Setting) (entries : List Entry) (τ : Monomial) (m : ℕ)
    (start : Start) : Type 0 where
  pub signed : IsStartAt s entries τ start
  pub starts : Starts s (take m entries) τ (start_polynomial s entries start) start
