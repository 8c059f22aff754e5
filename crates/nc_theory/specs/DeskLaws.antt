-- The theorems on working ahead of a run.
--
-- `StaleLaw` says which outcomes that were found over an older state stand over a newer one. The
-- other laws are on desks: a desk stays on the sequential run, does each list of events in one way,
-- and keeps its window and counts. A work over the desk's own state always stands.
--
-- Most laws ask for a prime. Each is the contract of a public function with an empty body.
use Rattle.nc_algebra.specs.Monomials.{Monomial}
use Rattle.nc_algebra.specs.Problems.{NamedProblem, Problem}
use Rattle.nc_algebra.specs.Primes.{IsPrime}
use Rattle.nc_theory.specs.Desk.{Abandoned, Abandons, Advances, Claimed, Claims, Desk, Does, Drives, Event, IsCounted, IsFinished, IsReadyWork, Node, Plays, Submits, Submitted, Ticket, Work, after_committed, emptied, open_desk}
use Rattle.nc_theory.specs.Runs.{End, Handles, IsEnd, Outcome, SequentialRun}
use Rattle.nc_theory.specs.Stale.{IsFresh}
use Rattle.nc_theory.specs.Untraced.{IsRunOf}
use Rattle.nc_theory.specs.States.{State}
use Rattle.nc_theory.specs.UntracedDesks.{IsSoundDesk, SameEvents}
use Rattle.nc_theory.specs.Windows.{WindowLaw}
use Rattle.std.specs.Prelude.{List, Option, [], length, ℕ, ◌↔◌, ◌≡◌, ◌≤◌, ◌⊎◌}

-- what was found over an earlier state stands over a later one exactly where it is covered or fresh
abbrev pub StaleLaw : Type 0
StaleLaw =
    (P : Problem) → IsPrime P.setting.prime
    → (k n : ℕ) (state later : State) (before last : Option Monomial)
    → SequentialRun P k state before → SequentialRun P n later last → k ≤ n → (τ : Monomial)
    (o : Outcome) → Handles P.setting state τ o → Handles P.setting later τ o
    ↔ ((o ≡ Outcome.covered)
    ⊎ IsFresh P.setting later (length state.entries) (length state.syzygies) τ o)

-- so it is without traces
abbrev pub UntracedStaleLaw : Type 0
UntracedStaleLaw =
    (P : Problem) → IsPrime P.setting.prime → (k n : ℕ) (state later : State) → IsRunOf P k state
    → IsRunOf P n later → k ≤ n → (τ : Monomial) (o : Outcome) → Handles P.setting state τ o
    → Handles P.setting later τ o ↔ ((o ≡ Outcome.covered)
    ⊎ IsFresh P.setting later (length state.entries) (length state.syzygies) τ o)

-- a play leads from a desk at a state of the run, within the steps, to one that is so too; an open
-- desk is one
abbrev pub SnapshotLaw : Type 0
SnapshotLaw = (P : NamedProblem) →
    ((events : List Event) (d d' : Desk) → Plays P events d d'
    → (SequentialRun P.problem d.handled d.state d.last
    → SequentialRun P.problem d'.handled d'.state d'.last)
    × (d.handled ≤ P.problem.steps → d'.handled ≤ P.problem.steps))
    × ((capacity : ℕ) (events : List Event) (d : Desk) → Plays P events (open_desk capacity) d
    → SequentialRun P.problem d.handled d.state d.last × (d.handled ≤ P.problem.steps))

-- a desk within the steps is finished exactly where its state is an end of the run
abbrev pub FinishedLaw : Type 0
FinishedLaw =
    (P : Problem) → IsPrime P.setting.prime → (d : Desk) → SequentialRun P d.handled d.state d.last
    → d.handled ≤ P.steps → IsFinished P d ↔ ((end : End) × IsEnd P d.handled d.state end)

-- each list of events has a play
abbrev pub PlaysExist : Type 0
PlaysExist =
    (P : NamedProblem) → IsPrime P.problem.setting.prime → (capacity : ℕ) (events : List Event)
    → (d : Desk) × Plays P events (open_desk capacity) d

-- a list of events leaves one desk
abbrev pub PlaysAreDetermined : Type 0
PlaysAreDetermined =
    (P : NamedProblem) (events : List Event) (d a b : Desk) → Plays P events d a
    → Plays P events d b → a ≡ b

-- a claim, a work that comes in and a ticket that is given back have one answer each, and leave one
-- desk
abbrev pub AnswersAreDetermined : Type 0
AnswersAreDetermined = (P : NamedProblem) (d : Desk) →
    ((a b : Claimed) (x y : Desk) → Claims P.problem d a x → Claims P.problem d b y → (a ≡ b)
    × (x ≡ y))
    × ((t : Ticket) (w : Work) (a b : Submitted) (x y : Desk) → Submits P d t w a x
    → Submits P d t w b y → (a ≡ b) × (x ≡ y))
    × ((t : Ticket) (a b : Abandoned) (x y : Desk) → Abandons d t a x → Abandons d t b y → (a ≡ b)
    × (x ≡ y))

-- for every list of events the window is as it should be
abbrev pub WindowsAreKept : Type 0
WindowsAreKept =
    (P : NamedProblem) → IsPrime P.problem.setting.prime
    → (capacity : ℕ) (events : List Event) (d : Desk) → Plays P events (open_desk capacity) d
    → WindowLaw P capacity d

-- a play keeps the counts of a desk right and handles no signature alone; those of an open desk are
-- right
abbrev pub DeskCounts : Type 0
DeskCounts = (P : NamedProblem) →
    ((events : List Event) (d d' : Desk) → Plays P events d d' → (IsCounted d → IsCounted d')
    × (d'.alone ≡ d.alone))
    × ((capacity : ℕ) (events : List Event) (d : Desk) → Plays P events (open_desk capacity) d
    → IsCounted d × (d.alone ≡ 0))

-- a work over the desk's own state that is ready is what handling gives there: each advance that is
-- not at the end commits it, and none drops it
abbrev pub OwnWorkStands : Type 0
OwnWorkStands =
    (P : NamedProblem) → IsPrime P.problem.setting.prime
    → (capacity : ℕ) (events : List Event) (d : Desk) → Plays P events (open_desk capacity) d
    → (τ : Monomial) (n : Node) (w : Work) → IsReadyWork P.problem d τ n w → w.number ≡ d.handled →
    Handles P.problem.setting d.state τ w.outcome
    × (¬ IsFinished P.problem d → (d' : Desk) → Advances P.problem d d'
    → Advances P.problem (after_committed d τ n w.outcome) d')

-- what is done to a desk without traces is done to the desk with them
abbrev pub TracesDoNotMatterToDesks : Type 0
TracesDoNotMatterToDesks = (P : NamedProblem) (d : Desk) → SameEvents P d

-- an open desk is as it should be, and each event leaves a desk so
abbrev pub DesksAreKept : Type 0
DesksAreKept = (P : NamedProblem) → IsPrime P.problem.setting.prime → (capacity : ℕ) →
    IsSoundDesk P capacity (open_desk capacity)
    × ((d d' : Desk) (e : Event) → Does P d e d' → IsSoundDesk P capacity d
    → IsSoundDesk P capacity d')

-- a desk whose window was freed is as it should be, with no window, and stays so while signatures
-- are handled alone
abbrev pub DrivesAreKept : Type 0
DrivesAreKept = (P : NamedProblem) → IsPrime P.problem.setting.prime → (capacity : ℕ) →
    ((d : Desk) → IsSoundDesk P capacity d → IsSoundDesk P capacity (emptied d)
    × ((emptied d).window ≡ []))
    × ((d d' : Desk) → Drives P.problem d d' → IsSoundDesk P capacity d → d.window ≡ []
    → IsSoundDesk P capacity d' × (d'.window ≡ []))
