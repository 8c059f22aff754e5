-- When an outcome that was found over an older state stands over a newer one.
--
-- Workers handle signatures while the run goes on, so an outcome may be asked for later than it was
-- found. The older state is told by its n entries and m syzygies, which are the first ones of the
-- newer state; what stands behind them is newer. The outcome stands exactly if it is `covered`, or
-- if it is fresh: no newer syzygy signature covers τ, no newer entry has a multiple at τ with a
-- lesser word than the one that the outcome came from, and no newer entry gives a regular divisor
-- of a word that was kept. Where τ was settled, the word of the best multiple takes the place of
-- the kept words.
--
-- A newer multiple with an equal word does no harm, because the earlier entry wins. For the same
-- reason the steps of the reduction stay what they are. The law is `StaleLaw`.
use Rattle.nc_algebra.specs.Elements.{Setting}
use Rattle.nc_algebra.specs.Monomials.{Monomial}
use Rattle.nc_algebra.specs.Polynomials.{coefficient}
use Rattle.nc_algebra.specs.Primes.{IsZero}
use Rattle.nc_algebra.specs.Words.{IsWordLess, Word}
use Rattle.nc_theory.specs.Divisors.{Divisor, Multiple, number_of}
use Rattle.nc_theory.specs.Newer.{HasNewerMultiple, HasNewerRegular, IsNewlyCovered}
use Rattle.nc_theory.specs.Runs.{Outcome}
use Rattle.nc_theory.specs.States.{Entry, Start, State}
use Rattle.std.specs.Prelude.{List, ℕ, ◌≡◌}

module _ (s : Setting) (entries : List Entry) (τ : Monomial) where
  -- the reduction began with the multiple of an entry, with leading word w
  abbrev pub BeganWith : Start → Word → Type 0
  BeganWith start w =
      (d : Divisor s entries w)
      × (start ≡ Start.a_multiple d.left (number_of s entries w d) d.right)

  -- entry j has a multiple with signature τ and leading word w
  abbrev pub SettledBy : ℕ → Word → Type 0
  SettledBy j w = (m : Multiple s entries τ w) × (j ≡ number_of s entries w m.divisor)

  -- the outcome came from a multiple with leading word w
  abbrev pub CameFrom : Outcome → Word → Type 0
  CameFrom Outcome.covered w = ⊥
  CameFrom (Outcome.settled j) w = SettledBy j w
  CameFrom (Outcome.an_entry f trace) w = BeganWith trace.start w
  CameFrom (Outcome.a_syzygy trace) w = BeganWith trace.start w

  -- a word of the outcome's polynomial, and where it is settled the word of the best multiple
  abbrev pub Keeps : Outcome → Word → Type 0
  Keeps Outcome.covered w = ⊥
  Keeps (Outcome.settled j) w = SettledBy j w
  Keeps (Outcome.an_entry f trace) w = ¬ IsZero s.prime (coefficient f w)
  Keeps (Outcome.a_syzygy trace) w = ⊥

-- nothing behind the first n entries and m syzygies bears on the outcome
pub record IsFresh (s : Setting) (state : State) (n m : ℕ) (τ : Monomial) (o : Outcome) : Type 0
  where
    pub uncovered : ¬ IsNewlyCovered s state n m τ
    pub start : (w : Word) → CameFrom s state.entries τ o w → (v : Word)
        → HasNewerMultiple s state.entries n τ v → ¬ IsWordLess v w
    pub kept : (w : Word) → Keeps s state.entries τ o w → ¬ HasNewerRegular s state.entries n τ w
