-- What is newer than an older state, told of the older state and of what was appended to it.
--
-- The proofs on stale outcomes go by the front of a list and what stands behind it. `Stale.antt` of
-- the specs says the same of the newer state and two counts; `Fresh.antt` joins the two.
use Rattle.nc_algebra.specs.Elements.{Setting}
use Rattle.nc_algebra.specs.Monomials.{Divides, Monomial}
use Rattle.nc_algebra.specs.Polynomials.{Polynomial, coefficient}
use Rattle.nc_algebra.specs.Primes.{IsZero}
use Rattle.nc_algebra.specs.Words.{IsWordLess, Word}
use Rattle.nc_theory.specs.Divisors.{Divisor, IsBestMultiple, Multiple, RegularDivisor, number_of}
use Rattle.nc_theory.specs.Runs.{Outcome}
use Rattle.nc_theory.specs.States.{Entry, Start, State, Syzygy, Trace}
use Rattle.nc_theory.specs.Syzygies.{TrivialSyzygy}
use Rattle.std.specs.Prelude.{Contains, List, length, ℕ, ◌++◌, ◌≡◌, ◌≤◌, ◌⊎◌}

-- the state with more entries and syzygies, and other counts
abbrev pub extended : State → List Entry → List Syzygy → ℕ → ℕ → State
extended state es hs covered settled =
    record {
      entries = state.entries ++ es;
      syzygies = state.syzygies ++ hs;
      covered = covered;
      settled = settled;
    }

-- the state with what came after it
pub record Extension (state later : State) : Type 0 where
  pub es : List Entry
  pub hs : List Syzygy
  pub is : later ≡ extended state es hs later.covered later.settled

module _ (s : Setting) (old : State) (τ : Monomial) where
  -- the start was the best multiple, of word w
  pub record StartedFrom (start : Start) (w : Word) : Type 0 where
    pub divisor : Divisor s old.entries w
    pub best : IsBestMultiple s old.entries τ w divisor
    pub is : start ≡ Start.a_multiple divisor.left (number_of s old.entries w divisor) divisor.right

  -- the outcome came from the best multiple, of word w
  pub data CameFrom : Outcome → Word → Type 0 where
    from_settled : {j : ℕ} (w : Word) (d : Divisor s old.entries w)
        → IsBestMultiple s old.entries τ w d → j ≡ number_of s old.entries w d
        → CameFrom (Outcome.settled j) w
    from_entry : {f : Polynomial} {trace : Trace} {w : Word} → StartedFrom trace.start w
        → CameFrom (Outcome.an_entry f trace) w
    from_syzygy : {trace : Trace} {w : Word} → StartedFrom trace.start w
        → CameFrom (Outcome.a_syzygy trace) w

  -- a word of the outcome's polynomial, and where it is settled the word of the best multiple
  pub data Keeps : Outcome → Word → Type 0 where
    keeps_settled : {j : ℕ} (w : Word) (d : Divisor s old.entries w)
        → IsBestMultiple s old.entries τ w d → j ≡ number_of s old.entries w d
        → Keeps (Outcome.settled j) w
    keeps_entry : {f : Polynomial} {trace : Trace} {w : Word} → ¬ IsZero s.prime (coefficient f w)
        → Keeps (Outcome.an_entry f trace) w

module _ (s : Setting) (old : State) (es : List Entry) (hs : List Syzygy) (τ : Monomial) where
  -- a syzygy signature that needs a newer syzygy or entry divides τ
  pub record NewlyCovered : Type 0 where
    pub by : Monomial
    pub divides : Divides by τ
    pub newer : ((h : Syzygy) × Contains hs h × (h.signature ≡ by))
        ⊎ ((t : TrivialSyzygy s (old.entries ++ es) by)
        × ((length old.entries ≤ t.first_listed.0) ⊎ (length old.entries ≤ t.second_listed.0)))

  -- a newer entry gives a multiple with signature τ and word v
  abbrev pub NewMultiple : Word → Type 0
  NewMultiple v =
      (m : Multiple s (old.entries ++ es) τ v) × (length old.entries ≤ m.divisor.listed.0)

  -- a newer entry gives a regular divisor of w
  abbrev pub NewRegular : Word → Type 0
  NewRegular w =
      (r : RegularDivisor s (old.entries ++ es) τ w) × (length old.entries ≤ r.divisor.listed.0)

  -- nothing newer bears on the outcome
  pub record Unaffected (o : Outcome) : Type 0 where
    pub uncovered : ¬ NewlyCovered
    pub start : (w : Word) → CameFrom s old τ o w → (v : Word) → NewMultiple v → ¬ IsWordLess v w
    pub kept : (w : Word) → Keeps s old τ o w → ¬ NewRegular w
