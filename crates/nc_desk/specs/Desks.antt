-- The desk of a run on one thread: what it holds between two signatures.
--
-- Beside a snapshot, it keeps the leading words with signatures, which reductions search, and the
-- signatures that wait. Both follow from the snapshot, and are kept so that a step need not compute
-- them anew. The definitions say that they fit it.
--
-- This is the desk that code has. The desk of `Desk.antt` of nc_theory also tells of tickets and
-- works.
use Rattle.nc_algebra.specs.Elements.{HasDegree}
use Rattle.nc_algebra.specs.Monomials.{Monomial, Sig, monomial_of}
use Rattle.nc_index.specs.Pairs.{Lead}
use Rattle.nc_reduce.specs.Leads.{LeadsOf}
use Rattle.nc_theory.specs.Untraced.{IsNextOfRun, IsRunTo}
use Rattle.nc_snapshot.specs.Snapshots.{Snapshot}
use Rattle.nc_theory.specs.Runs.{IsNext, IsWaiting}
use Rattle.std.specs.Prelude.{Contains, List, Option, ℕ, ◌<◌, ◌↔◌, ◌≡◌, ◌≤◌}

-- a snapshot, and how many signatures may be claimed at once
pub record DeskValue : Type 0 where
  pub snapshot : Snapshot
  pub window : ℕ

-- the signatures are exactly the candidates left after the last one that was handled, each with its
-- degree
pub record AreLeft (s : Snapshot) (signatures : List Sig) : Type 0 where
  pub last : Option Monomial
  pub run : IsRunTo s.problem.problem s.handled s.state last
  pub exact : (σ : Sig) → Contains signatures σ
      ↔ (HasDegree s.problem.problem.setting σ
      × IsWaiting s.problem.problem s.state last (monomial_of σ))

-- what is kept beside a snapshot fits it, and the window is 1 to 4,096
pub record IsDesk (s : Snapshot) (leads : List Lead) (signatures : List Sig) (window : ℕ) : Type 0
  where
    pub listed : LeadsOf s leads
    pub left : AreLeft s signatures
    pub some : 1 ≤ window
    pub few : window ≤ 4096

-- τ is the next signature after the last one that was handled
pub record IsNextAt (s : Snapshot) (τ : Monomial) : Type 0 where
  pub last : Option Monomial
  pub run : IsRunTo s.problem.problem s.handled s.state last
  pub next : IsNext s.problem.problem s.state last τ

-- some signature is the next one
abbrev pub Waits : Snapshot → Type 0
Waits s = (τ : Monomial) × IsNextOfRun s.problem.problem s.handled s.state τ

-- and it may be handled
abbrev pub MayStep : Snapshot → Type 0
MayStep s = Waits s × (s.handled < s.problem.problem.steps)

-- the later desk is of the same problem and the same window, and has handled as many signatures or
-- more
pub record IsLater (old new : DeskValue) : Type 0 where
  pub problem : new.snapshot.problem ≡ old.snapshot.problem
  pub window : new.window ≡ old.window
  pub handled : old.snapshot.handled ≤ new.snapshot.handled
