-- States without traces, as a program holds that keeps none.
--
-- A trace may be longer than its item, and can be made again. So a program keeps a run without
-- them. For the theory's definitions to apply, its state has one fixed trace in the place of each
-- of the run's own. The definitions here say that a state is that of the sequential run up to this
-- change. The law `TracesDoNotMatter` says that nothing but the traces of the items differs between
-- the two.
use Rattle.nc_algebra.specs.Elements.{Setting}
use Rattle.nc_algebra.specs.Monomials.{Monomial}
use Rattle.nc_algebra.specs.Problems.{Problem}
use Rattle.nc_algebra.specs.Words.{Word}
use Rattle.nc_theory.specs.Divisors.{Divisor, number_of}
use Rattle.nc_theory.specs.Runs.{End, IsEnd, IsNext, SequentialRun}
use Rattle.nc_theory.specs.States.{Entry, Start, State, Syzygy, Trace}
use Rattle.std.specs.Prelude.{List, Option, [], map, ℕ, ◌≡◌}

-- the trace that stands for none
abbrev pub no_trace : Trace
no_trace = record { start = Start.a_generator 0; steps = [] }

-- an item, and a state, whose traces are forgotten
abbrev pub untraced_entry : Entry → Entry
untraced_entry e = record { signature = e.signature; polynomial = e.polynomial; trace = no_trace }

-- the same of a syzygy
abbrev pub untraced_syzygy : Syzygy → Syzygy
untraced_syzygy h = record { signature = h.signature; trace = no_trace }

-- the same of all items of a state
abbrev pub untraced : State → State
untraced state =
    record {
      entries = map untraced_entry state.entries;
      syzygies = map untraced_syzygy state.syzygies;
      covered = state.covered;
      settled = state.settled;
    }

-- the same signatures and polynomials, in order
abbrev pub SameEntries : List Entry → List Entry → Type 0
SameEntries es es' = map untraced_entry es ≡ map untraced_entry es'

-- the same signatures, in order
abbrev pub SameSyzygies : List Syzygy → List Syzygy → Type 0
SameSyzygies hs hs' = map untraced_syzygy hs ≡ map untraced_syzygy hs'

-- the same place and the same multiple, of the entry with the same number
pub record IsSameDivisor (s : Setting) (es es' : List Entry) (w : Word) (d : Divisor s es w)
    (d' : Divisor s es' w) : Type 0 where
  pub number : number_of s es w d ≡ number_of s es' w d'
  pub left : d.left ≡ d'.left
  pub right : d.right ≡ d'.right
  pub signature : d.entry.signature ≡ d'.entry.signature
  pub polynomial : d.entry.polynomial ≡ d'.entry.polynomial

-- the state of the sequential run after so many steps, without traces
pub record IsRunOf (P : Problem) (n : ℕ) (state : State) : Type 0 where
  pub run : State
  pub last : Option Monomial
  pub runs : SequentialRun P n run last
  pub stands : state ≡ untraced run

-- and τ is the next signature of that run
pub record IsNextOfRun (P : Problem) (n : ℕ) (state : State) (τ : Monomial) : Type 0 where
  pub run : State
  pub last : Option Monomial
  pub runs : SequentialRun P n run last
  pub stands : state ≡ untraced run
  pub next : IsNext P run last τ

-- the same with the last signature that was handled
pub record IsRunTo (P : Problem) (n : ℕ) (state : State) (last : Option Monomial) : Type 0 where
  pub run : State
  pub runs : SequentialRun P n run last
  pub stands : state ≡ untraced run

-- the state of the sequential run at the end of its problem, without traces
pub record IsEndOf (P : Problem) (n : ℕ) (state : State) (ending : End) : Type 0 where
  pub run : State
  pub ends : IsEnd P n run ending
  pub stands : state ≡ untraced run
