-- The theorems on runs, bases and labels.
--
-- What a run has found comes first: a closed state is a basis, runs are sound and closed, an end
-- has enough within its bound, and entries are canonical. A run is unique, a complete end decides
-- membership, and each problem has one end.
--
-- From `AscentLaw` to `StepLimit` the laws tell how a run moves: new ambiguities lie above, what
-- waits after a step, the degree limit, how a trace is made again, the order of items, counts,
-- letters, and a limit on the number of steps.
--
-- The last ones are on representations, outcomes, trivial syzygies and reductions. Most laws ask
-- for a prime. Each is the contract of a public function with an empty body. `UntracedLaws.antt`
-- has those on runs without traces, `DeskLaws.antt` those on desks.
use Rattle.nc_algebra.specs.Elements.{degree, IsIn, IsLabelled, IsLeadingWord, IsLess, SamePolynomial, Setting, evaluation, WeighsAtMost, WordsAre, generator}
use Rattle.nc_algebra.specs.Monomials.{Divides, Monomial, Sig}
use Rattle.nc_algebra.specs.Polynomials.{IsNormal, Polynomial, leading}
use Rattle.nc_algebra.specs.Problems.{Bound, IsUnder, IsWithin, IsWithinBelow, IsWithinBound, Problem}
use Rattle.nc_algebra.specs.Sums.{minus}
use Rattle.nc_algebra.specs.Finite.{IsOver, monomials_within}
use Rattle.nc_algebra.specs.Primes.{IsPrime}
use Rattle.nc_algebra.specs.Words.{Letter, Word}
use Rattle.nc_theory.specs.Bases.{HasRepresentation, IsBasisBelow, IsCanonical, IsClosed, IsSound, IsSyzygyBasisBelow}
use Rattle.nc_theory.specs.Divisors.{Divisor, IsChosenDivisor, RegularDivisor, multiple_at, number_of, signature_at}
use Rattle.nc_theory.specs.Labels.{label_at, labels_of, step_multiples, trace_label}
use Rattle.nc_theory.specs.Letters.{AreOver}
use Rattle.nc_theory.specs.Rebuilding.{IsAtLeast, Rebuilds}
use Rattle.nc_theory.specs.Reductions.{PassesAt, Reduction, ReductionAt}
use Rattle.nc_theory.specs.Runs.{End, BringsAmbiguity, Handles, IsAfter, IsCandidate, IsEnd, IsNext, IsWaiting, NoneWaits, Outcome, SequentialRun, Starts, state_after}
use Rattle.nc_theory.specs.States.{Entry, Start, State, Step, Syzygy, Trace}
use Rattle.nc_theory.specs.Syzygies.{ApartAt, TrivialSyzygy}
use Rattle.std.specs.Prelude.{Contains, List, Option, Some, [], length, ℕ, ◌++◌, ◌+◌, ◌<◌, ◌∷◌, ◌↔◌, ◌≡◌, ◌≢◌, ◌≤◌, ◌⊎◌}

-- something that holds of each state that a run reaches, over a prime
abbrev pub OfEachRun : ((P : Problem) → ℕ → State → Option Monomial → Type 0) → Type 0
OfEachRun law =
    (P : Problem) → IsPrime P.setting.prime → (n : ℕ) (state : State) (last : Option Monomial)
    → SequentialRun P n state last → law P n state last

-- for each bound, by degree or below a monomial, and for the monomials under each Sig, a closed
-- state has enough entries and enough syzygies
abbrev pub ClosureTheorem : Type 0
ClosureTheorem = (s : Setting) → IsPrime s.prime → (state : State) → IsSound s state →
    ((b : Bound) → IsClosed s state (IsWithinBound s b) → IsBasisBelow s state (IsWithinBound s b)
    × IsSyzygyBasisBelow s state (IsWithinBound s b))
    × ((β : Sig) → IsClosed s state (IsUnder s β) → IsBasisBelow s state (IsUnder s β)
    × IsSyzygyBasisBelow s state (IsUnder s β))

-- each entry and syzygy of a run has the label that its trace gives
abbrev pub LabelLaw : Type 0
LabelLaw =
    OfEachRun (λ P n state last.
    ((e : Entry) (k : Contains state.entries e)
    → IsLabelled P.setting e.signature e.polynomial
    (label_at (labels_of P.setting.prime state.entries) (k.0 + 1)))
    × ((h : Syzygy) → Contains state.syzygies h
    → IsLabelled P.setting h.signature []
    (trace_label P.setting.prime (labels_of P.setting.prime state.entries) h.trace)))

-- each entry and syzygy of a run has a label
abbrev pub RunsAreSound : Type 0
RunsAreSound = OfEachRun (λ P n state last. IsSound P.setting state)

-- a run is closed below its next signature, and for the whole bound where none is left; so it has
-- enough of both there
abbrev pub RunsAreClosed : Type 0
RunsAreClosed =
    OfEachRun (λ P n state last.
    ((τ : Monomial) → IsNext P state last τ → IsClosed P.setting state (IsWithinBelow P τ)
    × IsBasisBelow P.setting state (IsWithinBelow P τ)
    × IsSyzygyBasisBelow P.setting state (IsWithinBelow P τ))
    × (NoneWaits P state last → IsClosed P.setting state (IsWithin P)
    × IsBasisBelow P.setting state (IsWithin P)
    × IsSyzygyBasisBelow P.setting state (IsWithin P)))

-- a complete end has enough of both within the bound, and another end below the next signature
abbrev pub CompletenessTheorem : Type 0
CompletenessTheorem = (P : Problem) → IsPrime P.setting.prime → (n : ℕ) (state : State) →
    (IsEnd P n state End.complete → IsBasisBelow P.setting state (IsWithin P)
    × IsSyzygyBasisBelow P.setting state (IsWithin P))
    × ((τ : Monomial) → IsEnd P n state (End.budget τ)
    → IsBasisBelow P.setting state (IsWithinBelow P τ)
    × IsSyzygyBasisBelow P.setting state (IsWithinBelow P τ))

-- each entry's polynomial is the one canonical polynomial at its signature
abbrev pub UniquenessTheorem : Type 0
UniquenessTheorem = OfEachRun (λ P n state last. (e : Entry) → Contains state.entries e →
    IsCanonical P.setting state.entries e.signature e.polynomial
    × ((f : Polynomial) → IsCanonical P.setting state.entries e.signature f
    → SamePolynomial P.setting f e.polynomial))

-- a run has one state and one last signature at each number, and a signature one outcome over the
-- state
abbrev pub RunsAreDetermined : Type 0
RunsAreDetermined =
    (P : Problem) → IsPrime P.setting.prime
    → (n : ℕ) (state state' : State) (last last' : Option Monomial) → SequentialRun P n state last
    → SequentialRun P n state' last' →
    (state ≡ state') × (last ≡ last')
    × ((τ : Monomial) (o o' : Outcome) → Handles P.setting state τ o
    → Handles P.setting state τ o' → o ≡ o')

-- what is left of a claim is zero exactly where some module element within the bound evaluates to
-- it, at a complete end
abbrev pub MembershipTheorem : Type 0
MembershipTheorem =
    (P : Problem) → IsPrime P.setting.prime → (n : ℕ) (state : State) → IsEnd P n state End.complete
    → (f rest : Polynomial) (steps : List Step)
    → Reduction P.setting state.entries (IsWithin P) f rest steps →
    (rest ≡ []) ↔ HasRepresentation P.setting (IsWithin P) f

-- each problem has an end, and one alone
abbrev pub OneEnd : Type 0
OneEnd = (P : Problem) → IsPrime P.setting.prime →
    ((n : ℕ) × (state : State) × (end : End) × IsEnd P n state end)
    × ((n m : ℕ) (state later : State) (end end' : End) → IsEnd P n state end → IsEnd P m later end'
    → (n ≡ m) × (state ≡ later) × (end ≡ end'))

-- each ambiguity with an entry that is listed at τ has a signature greater than τ
abbrev pub AscentLaw : Type 0
AscentLaw =
    OfEachRun (λ P n state last. (τ : Monomial) → IsNext P state last τ → (o : Outcome)
    → Handles P.setting state τ o →
    (ρ : Monomial) → BringsAmbiguity P.setting state τ o ρ → IsLess P.setting τ ρ)

-- after a step those signatures wait that waited before, without τ, and those of the new
-- ambiguities within the bound
abbrev pub WaitingLaw : Type 0
WaitingLaw =
    OfEachRun (λ P n state last. (τ : Monomial) → IsNext P state last τ → (o : Outcome)
    → Handles P.setting state τ o →
    (ρ : Monomial) → IsWaiting P (state_after state τ o) (Some τ) ρ
    ↔ ((IsWaiting P state last ρ × (ρ ≢ τ))
    ⊎ (IsWithin P ρ × BringsAmbiguity P.setting state τ o ρ)))

-- what is reached at τ weighs at most the degree of τ: what is reduced, each multiple, each
-- polynomial on the way, and what is kept. The two clauses on single steps ask less of the step
pub record LimitedAt (s : Setting) (entries : List Entry) (τ : Monomial) : Type 0 where
  pub starts : (f : Polynomial) (start : Start) → Starts s entries τ f start
      → WeighsAtMost s (degree s τ) f
  pub multiples : (w : Word) (d : Divisor s entries w) → (signature_at s entries w d ≡ τ)
      ⊎ IsLess s (signature_at s entries w d) τ
      → WeighsAtMost s (degree s τ) (multiple_at s entries w d)
  pub passes : (f h : Polynomial) → WeighsAtMost s (degree s τ) f → PassesAt s entries τ f h
      → WeighsAtMost s (degree s τ) h
  pub subtracts : (f : Polynomial) (w : Word) (d : Divisor s entries w) (c : ℕ)
      → WeighsAtMost s (degree s τ) f → IsLess s (signature_at s entries w d) τ
      → WeighsAtMost s (degree s τ) (minus s.prime f c (multiple_at s entries w d))
  pub removes : (f : Polynomial) (w : Word) (c : ℕ) → IsLeadingWord s f w
      → WeighsAtMost s (degree s τ) f
      → WeighsAtMost s (degree s τ) (minus s.prime f 1 (record { coefficient = c; key = w } ∷ []))
  pub keeps : (f kept : Polynomial) (steps : List Step) → WeighsAtMost s (degree s τ) f
      → ReductionAt s entries τ f kept steps → WeighsAtMost s (degree s τ) kept

-- the degree limit: entries' words at their signatures, and all that is reached at τ
abbrev pub DegreeLimit : Type 0
DegreeLimit =
    OfEachRun (λ P n state last.
    ((e : Entry) → Contains state.entries e
    → WeighsAtMost P.setting (degree P.setting e.signature) e.polynomial)
    × ((τ : Monomial) → LimitedAt P.setting state.entries τ))

-- an entry with a signature of at least τ gives no regular divisor at τ, so reduction over all
-- entries is reduction over the first ones
abbrev pub FrontLaw : Type 0
FrontLaw =
    (s : Setting) (first rest : List Entry) (τ : Monomial)
    → ((e : Entry) → Contains rest e → IsAtLeast s τ e) →
    ((w : Word) → RegularDivisor s (first ++ rest) τ w ↔ RegularDivisor s first τ w)
    × ((f kept : Polynomial) (steps : List Step) → ReductionAt s (first ++ rest) τ f kept steps
    ↔ ReductionAt s first τ f kept steps)

-- each listed item of a run is rebuilt from its signature and the entries with lesser signatures,
-- and what is rebuilt is one trace and one result
abbrev pub RebuildingLaw : Type 0
RebuildingLaw =
    OfEachRun (λ P n state last.
    ((e : Entry) → Contains state.entries e
    → Rebuilds P.setting state.entries e.signature e.trace e.polynomial)
    × ((h : Syzygy) → Contains state.syzygies h
    → Rebuilds P.setting state.entries h.signature h.trace [])
    × ((σ : Monomial) (t t' : Trace) (f f' : Polynomial) → Rebuilds P.setting state.entries σ t f
    → Rebuilds P.setting state.entries σ t' f' → (t ≡ t') × (f ≡ f')))

-- entries ascend strictly, and so do syzygies; and no two entries have one leading word
abbrev pub RunsAscend : Type 0
RunsAscend =
    OfEachRun (λ P n state last.
    ((e e' : Entry) (k : Contains state.entries e) (k' : Contains state.entries e') → k.0 < k'.0
    → IsLess P.setting e.signature e'.signature)
    × ((h h' : Syzygy) (k : Contains state.syzygies h) (k' : Contains state.syzygies h')
    → k.0 < k'.0 → IsLess P.setting h.signature h'.signature)
    × ((e e' : Entry) (k : Contains state.entries e) (k' : Contains state.entries e') → k.0 < k'.0
    → leading P.setting.prime e.polynomial ≢ leading P.setting.prime e'.polynomial))

-- each entry and each syzygy has a signature within the bound, and less than each signature that
-- comes after the last one handled
abbrev pub ItemsAreReached : Type 0
ItemsAreReached =
    OfEachRun (λ P n state last.
    ((e : Entry) → Contains state.entries e → IsWithin P e.signature
    × ((τ : Monomial) → IsAfter P last τ → IsLess P.setting e.signature τ))
    × ((h : Syzygy) → Contains state.syzygies h → IsWithin P h.signature
    × ((τ : Monomial) → IsAfter P last τ → IsLess P.setting h.signature τ)))

-- a run goes on as long as a candidate is left
abbrev pub RunsGoOn : Type 0
RunsGoOn =
    OfEachRun (λ P n state last. ((τ : Monomial) × IsNext P state last τ) ⊎ NoneWaits P state last)

-- each handled signature is counted once
abbrev pub CountLaw : Type 0
CountLaw =
    (P : Problem) (n : ℕ) (state : State) (last : Option Monomial) → SequentialRun P n state last
    → n ≡ state.covered + state.settled + length state.entries + length state.syzygies

-- a run's entries, its syzygies' signatures and its candidates are over the letters of its
-- generators, and reduction by the entries keeps words over the letters
abbrev pub LettersLaw : Type 0
LettersLaw =
    (P : Problem) → IsPrime P.setting.prime → (letters : List Letter)
    → ((i : ℕ) → WordsAre P.setting (IsOver letters) (generator P.setting i))
    → (n : ℕ) (state : State) (last : Option Monomial) → SequentialRun P n state last →
    AreOver P.setting letters state.entries
    × ((h : Syzygy) → Contains state.syzygies h → IsOver letters h.signature.left
    × IsOver letters h.signature.right)
    × ((τ : Monomial) → IsCandidate P state τ → IsOver letters τ.left × IsOver letters τ.right)
    × ((w : Word) (d : Divisor P.setting state.entries w) → IsOver letters w
    → WordsAre P.setting (IsOver letters) (multiple_at P.setting state.entries w d))

-- over finitely many letters a run has at most as many steps as the bound has monomials; with so
-- many allowed, each end is complete
abbrev pub StepLimit : Type 0
StepLimit =
    (P : Problem) → IsPrime P.setting.prime → (letters : List Letter)
    → ((i : ℕ) → WordsAre P.setting (IsOver letters) (generator P.setting i)) →
    ((n : ℕ) (state : State) (last : Option Monomial) → SequentialRun P n state last
    → n ≤ length (monomials_within P.setting P.bound letters))
    × (length (monomials_within P.setting P.bound letters) ≤ P.steps
    → (n : ℕ) (state : State) (end : End) → IsEnd P n state end → end ≡ End.complete)

-- what is left of a claim is the claim less a module element within the bound, which the labels of
-- the subtracted multiples sum up to
abbrev pub RepresentationLaw : Type 0
RepresentationLaw =
    OfEachRun (λ P n state last. (f rest : Polynomial) (steps : List Step)
    → Reduction P.setting state.entries (IsWithin P) f rest steps →
    IsIn P.setting (step_multiples (labels_of P.setting.prime state.entries) steps) (IsWithin P)
    × SamePolynomial P.setting (evaluation P.setting
    (step_multiples (labels_of P.setting.prime state.entries) steps) ++ rest) f)

-- each candidate has an outcome
abbrev pub OutcomesExist : Type 0
OutcomesExist =
    OfEachRun (λ P n state last. (τ : Monomial) → IsCandidate P state τ → (o : Outcome)
    × Handles P.setting state τ o)

-- a trivial syzygy signature divides τ exactly where a multiple at τ has a place with a lesser
-- signature apart from it
abbrev pub TrivialSyzygyLaw : Type 0
TrivialSyzygyLaw =
    (s : Setting) (entries : List Entry) (τ : Monomial)
    → ((ρ : Monomial) × TrivialSyzygy s entries ρ × Divides ρ τ) ↔ ApartAt s entries τ

-- in the set each word that has a divisor has one that is chosen, and one alone, and each
-- polynomial has one reduction: what is kept is in
-- normal form, and equal polynomials have equal results
pub record ReducesOnce (s : Setting) (entries : List Entry) (set : Monomial → Type 0) : Type 0 where
  pub chosen : (w : Word) → ((d : Divisor s entries w) × IsChosenDivisor s entries set w d)
      ⊎ ((d : Divisor s entries w) → ¬ set (signature_at s entries w d))
  pub one : (w : Word) (d e : Divisor s entries w) → IsChosenDivisor s entries set w d
      → IsChosenDivisor s entries set w e → (number_of s entries w d ≡ number_of s entries w e)
      × (d.left ≡ e.left) × (d.right ≡ e.right)
  pub exists : (f : Polynomial) → (kept : Polynomial) × (steps : List Step)
      × Reduction s entries set f kept steps
  pub normal : (f kept : Polynomial) (steps : List Step) → Reduction s entries set f kept steps
      → IsNormal s.prime kept
  pub unique : (f f' kept kept' : Polynomial) (steps steps' : List Step) → SamePolynomial s f f'
      → Reduction s entries set f kept steps → Reduction s entries set f' kept' steps'
      → (kept ≡ kept') × (steps ≡ steps')

-- at each signature, and within the bound
abbrev pub ReductionLaw : Type 0
ReductionLaw =
    OfEachRun (λ P n state last. ((τ : Monomial)
    → ReducesOnce P.setting state.entries (λ σ. IsLess P.setting σ τ))
    × ReducesOnce P.setting state.entries (IsWithin P))
