-- Snapshots: what the run of a problem has found after a number of steps, without traces.
--
-- A snapshot stays as it is when the run goes on; the next step makes a new one. So several threads
-- may read one. It holds signatures with their degrees, and no traces: these can be made again
-- (`Rebuilding.antt` of nc_theory).
--
-- `Found` is what code stores. `Snapshot` is what contracts say of it: a problem, a number of
-- steps, and a state of the theory, with one fixed trace for each item.
use Rattle.nc_algebra.specs.Elements.{HasDegree, Setting}
use Rattle.nc_algebra.specs.Monomials.{Sig, monomial_of}
use Rattle.nc_algebra.specs.Polynomials.{Polynomial}
use Rattle.nc_algebra.specs.Problems.{IsProblem, NamedProblem}
use Rattle.nc_theory.specs.Untraced.{IsRunOf, no_trace}
use Rattle.nc_theory.specs.States.{Entry, State, Syzygy}
use Rattle.std.specs.Prelude.{All, List, map, ℕ, ◌≤◌}

-- a signature with its degree, and its polynomial
pub record Signed : Type 0 where
  pub sig : Sig
  pub polynomial : Polynomial

-- as an item of the theory, without a trace
abbrev pub entry_of : Signed → Entry
entry_of e = record { signature = monomial_of e.sig; polynomial = e.polynomial; trace = no_trace }

-- a syzygy of the theory, without a trace
abbrev pub syzygy_of : Sig → Syzygy
syzygy_of σ = record { signature = monomial_of σ; trace = no_trace }

-- entries, syzygies, and how many signatures were covered or settled
pub record Found : Type 0 where
  pub entries : List Signed
  pub syzygies : List Sig
  pub covered : ℕ
  pub settled : ℕ

-- as a state of the theory
abbrev pub state_of : Found → State
state_of f =
    record {
      entries = map entry_of f.entries;
      syzygies = map syzygy_of f.syzygies;
      covered = f.covered;
      settled = f.settled;
    }

-- each degree beside a signature is its degree in the setting
pub record HasDegrees (s : Setting) (f : Found) : Type 0 where
  pub entries : All (λ e. HasDegree s e.sig) f.entries
  pub syzygies : All (HasDegree s) f.syzygies

-- a problem, how many signatures were handled, and what was found
pub record Snapshot : Type 0 where
  pub problem : NamedProblem
  pub handled : ℕ
  pub state : State

-- it stands for the sequential run of so many steps, within those of the problem
pub record IsSnapshot (s : Snapshot) : Type 0 where
  pub problem : IsProblem s.problem
  pub run : IsRunOf s.problem.problem s.handled s.state
  pub few : s.handled ≤ s.problem.problem.steps
