-- What is newer in a state than its first entries and syzygies.
--
-- A run appends what it finds, so an older state of a run is told by two counts: its n entries and
-- m syzygies are the first ones of each later state. What stands behind them is newer. It is told
-- by its place and not by its value.
use Rattle.nc_algebra.specs.Elements.{Setting}
use Rattle.nc_algebra.specs.Monomials.{Divides, Monomial}
use Rattle.nc_algebra.specs.Words.{Word}
use Rattle.nc_theory.specs.Divisors.{Multiple, RegularDivisor}
use Rattle.nc_theory.specs.States.{Entry, State, Syzygy}
use Rattle.nc_theory.specs.Syzygies.{TrivialSyzygy}
use Rattle.std.specs.Prelude.{Contains, List, ℕ, ◌≡◌, ◌≤◌, ◌⊎◌}

module _ (s : Setting) (entries : List Entry) (n : ℕ) where
  -- an entry behind the first n gives a regular divisor of w at τ
  abbrev pub HasNewerRegular : Monomial → Word → Type 0
  HasNewerRegular τ w = (r : RegularDivisor s entries τ w) × (n ≤ r.divisor.listed.0)

  -- an entry behind the first n gives a multiple with signature τ and word w
  abbrev pub HasNewerMultiple : Monomial → Word → Type 0
  HasNewerMultiple τ w = (m : Multiple s entries τ w) × (n ≤ m.divisor.listed.0)

  -- ρ is the signature of a trivial syzygy of two entries, one of them behind the first n
  abbrev pub IsNewerTrivial : Monomial → Type 0
  IsNewerTrivial ρ =
      (t : TrivialSyzygy s entries ρ) × ((n ≤ t.first_listed.0) ⊎ (n ≤ t.second_listed.0))

-- ρ is the signature of a listed syzygy behind the first m
abbrev pub IsNewerListed : List Syzygy → ℕ → Monomial → Type 0
IsNewerListed syzygies m ρ =
    (h : Syzygy) × (k : Contains syzygies h) × (m ≤ k.0) × (h.signature ≡ ρ)

-- a syzygy signature divides τ that a state with n entries and m syzygies did not have
pub record IsNewlyCovered (s : Setting) (state : State) (n m : ℕ) (τ : Monomial) : Type 0 where
  pub by : Monomial
  pub is_newer : IsNewerListed state.syzygies m by ⊎ IsNewerTrivial s state.entries n by
  pub divides : Divides by τ
