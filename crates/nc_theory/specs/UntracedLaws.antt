-- The theorems on runs without traces, as programs use them.
--
-- `TracesDoNotMatter` says that searches, outcomes, candidates and bases are the same with and
-- without traces. `UntracedRunsLaw` says that the run without traces is a run of its own, and just
-- one. `SnapshotFactsLaw`, `CandidateFactsLaw` and `NextFactsLaw` tell what a program may count on
-- that goes on with such a state: words within limits, signatures within the bound and in order.
-- `UntracedStepsLaw` is how it goes on, and what waits after a step.
--
-- The last ones are on ends and words: an end has enough entries and syzygies, a problem has at
-- most one end, each entry is canonical, all words are over the alphabet, representations need no
-- other letters, and with enough steps each end is complete.
--
-- Where a law takes a `NamedProblem`, it holds within the limits of `IsProblem`. Each law is the
-- contract of a public function with an empty body.
use Rattle.nc_algebra.specs.Alphabets.{AreWordsIn}
use Rattle.nc_algebra.specs.Elements.{IsLess, Setting}
use Rattle.nc_algebra.specs.Finite.{monomials_within}
use Rattle.nc_algebra.specs.Monomials.{Monomial, Sig, unit_monomial}
use Rattle.nc_algebra.specs.Polynomials.{Polynomial}
use Rattle.nc_algebra.specs.Primes.{IsPrime}
use Rattle.nc_algebra.specs.Problems.{Bound, IsProblem, IsUnder, IsWithin, IsWithinBound, NamedProblem, Problem}
use Rattle.nc_algebra.specs.Settings.{IsSetting, NamedSetting}
use Rattle.nc_algebra.specs.Words.{Word}
use Rattle.nc_theory.specs.EndBases.{AreCanonical, HasBases, HasBasesAt}
use Rattle.nc_theory.specs.Named.{IsMonomialIn, IsOverAlphabet, alphabet_letters}
use Rattle.nc_theory.specs.Untraced.{IsEndOf, IsNextOfRun, IsRunOf, IsRunTo, IsSameDivisor, untraced, untraced_entry}
use Rattle.nc_theory.specs.Usable.{IsUsable, IsUsableSignature}
use Rattle.nc_theory.specs.Ambiguities.{Ambiguity, NewAmbiguity}
use Rattle.nc_theory.specs.Bases.{HasRepresentation}
use Rattle.nc_theory.specs.Divisors.{Divisor, IsBestMultiple, IsChosenDivisor, Multiple, RegularDivisor, signature_at}
use Rattle.nc_theory.specs.Reductions.{Reduction, ReductionAt}
use Rattle.nc_theory.specs.Runs.{BringsAmbiguity, End, Handles, IsCandidate, IsNext, IsWaiting, NoneWaits, Outcome, opening, state_after}
use Rattle.nc_theory.specs.States.{Entry, State, Step, Syzygy}
use Rattle.nc_theory.specs.Syzygies.{Covered}
use Rattle.std.specs.Prelude.{All, Contains, List, None, Option, Some, length, ℕ, ◌+◌, ◌<◌, ◌↔◌, ◌≡◌, ◌≢◌, ◌≤◌, ◌⊎◌}

-- what is said of the one state is said of the other, the traces of new outcomes included
pub record SameSearches (s : Setting) (state run : State) : Type 0 where
  pub divisors : (w : Word) (d : Divisor s state.entries w) → (d' : Divisor s run.entries w)
      × IsSameDivisor s state.entries run.entries w d d'
  pub divisors_back : (w : Word) (d' : Divisor s run.entries w) → (d : Divisor s state.entries w)
      × IsSameDivisor s state.entries run.entries w d d'
  pub signatures : (w : Word) (d : Divisor s state.entries w) (d' : Divisor s run.entries w)
      → IsSameDivisor s state.entries run.entries w d d'
      → signature_at s state.entries w d ≡ signature_at s run.entries w d'
  pub chosen : (τ : Monomial) (w : Word) (d : Divisor s state.entries w)
      (d' : Divisor s run.entries w) → IsSameDivisor s state.entries run.entries w d d'
      → IsChosenDivisor s state.entries (λ σ. IsLess s σ τ) w d
      ↔ IsChosenDivisor s run.entries (λ σ. IsLess s σ τ) w d'
  pub best : (τ : Monomial) (w : Word) (d : Divisor s state.entries w)
      (d' : Divisor s run.entries w) → IsSameDivisor s state.entries run.entries w d d'
      → IsBestMultiple s state.entries τ w d ↔ IsBestMultiple s run.entries τ w d'
  pub multiples : (τ : Monomial) (w : Word) (m : Multiple s state.entries τ w)
      → (m' : Multiple s run.entries τ w)
      × IsSameDivisor s state.entries run.entries w m.divisor m'.divisor
  pub multiples_back : (τ : Monomial) (w : Word) (m' : Multiple s run.entries τ w)
      → (m : Multiple s state.entries τ w)
      × IsSameDivisor s state.entries run.entries w m.divisor m'.divisor
  pub regular : (τ : Monomial) (w : Word) (r : RegularDivisor s state.entries τ w)
      → (r' : RegularDivisor s run.entries τ w)
      × IsSameDivisor s state.entries run.entries w r.divisor r'.divisor
  pub regular_back : (τ : Monomial) (w : Word) (r' : RegularDivisor s run.entries τ w)
      → (r : RegularDivisor s state.entries τ w)
      × IsSameDivisor s state.entries run.entries w r.divisor r'.divisor
  pub reductions : (τ : Monomial) (f kept : Polynomial) (steps : List Step)
      → ReductionAt s state.entries τ f kept steps ↔ ReductionAt s run.entries τ f kept steps
  pub covered : (τ : Monomial) → Covered s state τ ↔ Covered s run τ
  pub handles : (τ : Monomial) (o : Outcome) → Handles s state τ o ↔ Handles s run τ o
  pub ambiguities : (ρ : Monomial) (w : Word) → Ambiguity s state.entries ρ w
      ↔ Ambiguity s run.entries ρ w
  pub new_ambiguities : (new : Entry) (ρ : Monomial)
      → NewAmbiguity s state.entries (untraced_entry new) ρ ↔ NewAmbiguity s run.entries new ρ
  pub brings : (τ : Monomial) (o : Outcome) (ρ : Monomial) → BringsAmbiguity s state τ o ρ
      ↔ BringsAmbiguity s run τ o ρ
  pub after : (τ : Monomial) (o : Outcome)
      → untraced (state_after state τ o) ≡ untraced (state_after run τ o)
  pub bases : (b : Bound) → HasBases s state (IsWithinBound s b)
      ↔ HasBases s run (IsWithinBound s b)
  pub bases_under : (β : Sig) → HasBases s state (IsUnder s β) ↔ HasBases s run (IsUnder s β)
  pub canonical : AreCanonical s state ↔ AreCanonical s run

-- so with what a problem's bound lets in
pub record SameCandidates (P : Problem) (state run : State) : Type 0 where
  pub chosen : (w : Word) (d : Divisor P.setting state.entries w)
      (d' : Divisor P.setting run.entries w)
      → IsSameDivisor P.setting state.entries run.entries w d d'
      → IsChosenDivisor P.setting state.entries (IsWithin P) w d
      ↔ IsChosenDivisor P.setting run.entries (IsWithin P) w d'
  pub reductions : (f kept : Polynomial) (steps : List Step)
      → Reduction P.setting state.entries (IsWithin P) f kept steps
      ↔ Reduction P.setting run.entries (IsWithin P) f kept steps
  pub candidates : (τ : Monomial) → IsCandidate P state τ ↔ IsCandidate P run τ
  pub waits : (last : Option Monomial) (τ : Monomial) → IsWaiting P state last τ
      ↔ IsWaiting P run last τ
  pub none : (last : Option Monomial) → NoneWaits P state last ↔ NoneWaits P run last
  pub next : (last : Option Monomial) (τ : Monomial) → IsNext P state last τ ↔ IsNext P run last τ
  pub bases : (ending : End) → HasBasesAt P state ending ↔ HasBasesAt P run ending

-- a state says the same with and without its traces
abbrev pub TracesDoNotMatter : Type 0
TracesDoNotMatter =
    (run : State) → ((s : Setting) → SameSearches s (untraced run) run)
    × ((P : Problem) → SameCandidates P (untraced run) run)

-- without traces the run begins with nothing, goes on with each outcome at its next signature, and
-- is one: with one state and one next signature at each number of steps
pub record UntracedRuns (P : Problem) : Type 0 where
  pub opens : IsRunOf P 0 opening
  pub stands : (n : ℕ) (state : State) (τ : Monomial) → IsNextOfRun P n state τ → IsRunOf P n state
  pub steps : (n : ℕ) (state : State) (τ : Monomial) (o : Outcome) → IsNextOfRun P n state τ
      → Handles P.setting state τ o → IsRunOf P (n + 1) (untraced (state_after state τ o))
  pub one : IsPrime P.setting.prime → (n : ℕ) (state state' : State) → IsRunOf P n state
      → IsRunOf P n state' → state ≡ state'
  pub one_next : IsPrime P.setting.prime → (n : ℕ) (state state' : State) (τ τ' : Monomial)
      → IsNextOfRun P n state τ → IsNextOfRun P n state' τ' → τ ≡ τ'

-- so it is for each problem
abbrev pub UntracedRunsLaw : Type 0
UntracedRunsLaw = (P : Problem) → UntracedRuns P

-- what a program that goes on with such a state may count on
pub record SnapshotFacts (P : Problem) (n : ℕ) (state : State) : Type 0 where
  pub usable : All (IsUsable P.setting) state.entries
  pub entries_within : (e : Entry) → Contains state.entries e → IsWithin P e.signature
      × IsUsableSignature P.setting e.signature
  pub syzygies_within : (h : Syzygy) → Contains state.syzygies h → IsWithin P h.signature
      × IsUsableSignature P.setting h.signature
  pub entries_ascend : (e e' : Entry) (k : Contains state.entries e)
      (k' : Contains state.entries e') → k.0 < k'.0 → IsLess P.setting e.signature e'.signature
  pub syzygies_ascend : (h h' : Syzygy) (k : Contains state.syzygies h)
      (k' : Contains state.syzygies h') → k.0 < k'.0 → IsLess P.setting h.signature h'.signature
  pub counted : n ≡ state.covered + state.settled + length state.entries + length state.syzygies

-- for a problem that a program takes, over a prime
abbrev pub SnapshotFactsLaw : Type 0
SnapshotFactsLaw =
    (P : NamedProblem) → IsProblem P → IsPrime P.problem.setting.prime → (n : ℕ) (state : State)
    → IsRunOf P.problem n state → SnapshotFacts P.problem n state

-- and on each candidate, as on the next signature: it can be used, and has something to be reduced
pub record CandidateFacts (P : Problem) (state : State) (τ : Monomial) : Type 0 where
  pub within : IsWithin P τ
  pub usable : IsUsableSignature P.setting τ
  pub source : ((i : ℕ) × (τ ≡ unit_monomial i))
      ⊎ ((w : Word) × Multiple P.setting state.entries τ w)

-- for a problem that a program takes, each candidate is such
abbrev pub CandidateFactsLaw : Type 0
CandidateFactsLaw =
    (P : NamedProblem) → IsProblem P → IsPrime P.problem.setting.prime → (n : ℕ) (state : State)
    → IsRunOf P.problem n state → (τ : Monomial) → IsCandidate P.problem state τ
    → CandidateFacts P.problem state τ

-- and the next signature is such a candidate
abbrev pub NextFactsLaw : Type 0
NextFactsLaw =
    (P : NamedProblem) → IsProblem P → IsPrime P.problem.setting.prime
    → (n : ℕ) (state : State) (τ : Monomial) → IsNextOfRun P.problem n state τ
    → CandidateFacts P.problem state τ

-- how a run without traces goes on: there is a next signature or none waits, each candidate has one
-- outcome, and the outcome of the next one
-- makes one step more, after which those wait that waited before, without it, and the new
-- ambiguities within the bound, which are greater
pub record GoesOn (P : Problem) (n : ℕ) (state : State) (last : Option Monomial) : Type 0 where
  pub stands : IsRunOf P n state
  pub waits_or_not : ((τ : Monomial) × IsNext P state last τ) ⊎ NoneWaits P state last
  pub outcome : (τ : Monomial) → IsCandidate P state τ → (o : Outcome) × Handles P.setting state τ o
  pub one_outcome : (τ : Monomial) (o o' : Outcome) → Handles P.setting state τ o
      → Handles P.setting state τ o' → o ≡ o'
  pub next : (τ : Monomial) → IsNext P state last τ → IsNextOfRun P n state τ
  pub step : (τ : Monomial) (o : Outcome) → IsNext P state last τ → Handles P.setting state τ o
      → IsRunTo P (n + 1) (untraced (state_after state τ o)) (Some τ)
  pub waits : (τ : Monomial) (o : Outcome) → IsNext P state last τ → Handles P.setting state τ o
      → (ρ : Monomial) → IsWaiting P (untraced (state_after state τ o)) (Some τ) ρ
      ↔ ((IsWaiting P state last ρ × (ρ ≢ τ))
      ⊎ (IsWithin P ρ × BringsAmbiguity P.setting state τ o ρ))
  pub ascends : (τ : Monomial) (o : Outcome) → IsNext P state last τ → Handles P.setting state τ o
      → (ρ : Monomial) → BringsAmbiguity P.setting state τ o ρ → IsLess P.setting τ ρ

-- it begins with nothing
abbrev pub UntracedStepsLaw : Type 0
UntracedStepsLaw = (P : Problem) →
    IsRunTo P 0 opening None
    × (IsPrime P.setting.prime → (n : ℕ) (state : State) (last : Option Monomial)
    → IsRunTo P n state last → GoesOn P n state last)

-- the state at an end has enough, within the bound or below the next signature
abbrev pub EndFactsLaw : Type 0
EndFactsLaw =
    (P : Problem) → IsPrime P.setting.prime → (n : ℕ) (state : State) (ending : End)
    → IsEndOf P n state ending → HasBasesAt P state ending

-- a problem has at most one end without traces
abbrev pub OneUntracedEnd : Type 0
OneUntracedEnd =
    (P : Problem) → IsPrime P.setting.prime → (n m : ℕ) (state state' : State) (e e' : End)
    → IsEndOf P n state e → IsEndOf P m state' e' → (n ≡ m) × (state ≡ state') × (e ≡ e')

-- each entry of a run without traces is the canonical one at its signature
abbrev pub CanonicalLaw : Type 0
CanonicalLaw =
    (P : Problem) → IsPrime P.setting.prime → (n : ℕ) (state : State) → IsRunOf P n state
    → AreCanonical P.setting state

-- for a problem that a program takes, all words of a run are over its alphabet
abbrev pub AlphabetLaw : Type 0
AlphabetLaw =
    (P : NamedProblem) → IsProblem P → IsPrime P.problem.setting.prime → (n : ℕ) (state : State)
    → IsRunOf P.problem n state → IsOverAlphabet P state

-- a polynomial over a setting's alphabet has a representation within a bound over all letters
-- exactly where it has one over those of the alphabet
abbrev pub RepresentationsInAlphabet : Type 0
RepresentationsInAlphabet =
    (s : NamedSetting) → IsSetting s → (b : Bound) (f : Polynomial) → AreWordsIn s.alphabet f
    → HasRepresentation s.setting (IsWithinBound s.setting b) f
    ↔ HasRepresentation s.setting
    (λ σ. IsWithinBound s.setting b σ × IsMonomialIn s.alphabet σ) f

-- where as many steps are allowed as its bound has monomials, each end is complete
abbrev pub EnoughSteps : Type 0
EnoughSteps =
    (P : NamedProblem) → IsProblem P → IsPrime P.problem.setting.prime
    → length (monomials_within P.problem.setting P.problem.bound (alphabet_letters P.alphabet))
    ≤ P.problem.steps → (n : ℕ) (state : State) (ending : End) → IsEndOf P.problem n state ending
    → ending ≡ End.complete
