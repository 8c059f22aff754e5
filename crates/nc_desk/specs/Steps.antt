-- One step of a desk: what becomes of its next signature, and what that brings.
--
-- The step takes the next signature of the run over the desk's own snapshot, so its outcome always
-- stands. A new entry adds a leading word, and brings the signatures of its ambiguities; any other
-- outcome brings none. By the law `WaitingLaw` of nc_theory, nothing else comes to wait.
use Rattle.nc_algebra.specs.Elements.{HasDegree}
use Rattle.nc_algebra.specs.Monomials.{Monomial, Sig, monomial_of}
use Rattle.nc_algebra.specs.Problems.{IsWithin, Problem}
use Rattle.nc_index.specs.Pairs.{Lead}
use Rattle.nc_queue.specs.Queues.{IsAscending}
use Rattle.nc_reduce.specs.Leads.{LeadsOf}
use Rattle.nc_theory.specs.Untraced.{IsNextOfRun, untraced}
use Rattle.nc_snapshot.specs.Snapshots.{Snapshot}
use Rattle.nc_theory.specs.Runs.{BringsAmbiguity, Handles, Outcome, state_after}
use Rattle.nc_theory.specs.States.{State}
use Rattle.std.specs.Prelude.{Contains, List, ◌+◌, ◌↔◌, ◌≡◌, ◌⊎◌}

-- the later snapshot is the earlier one with what becomes of its next signature
pub record IsStep (old new : Snapshot) : Type 0 where
  pub signature : Monomial
  pub outcome : Outcome
  pub next : IsNextOfRun old.problem.problem old.handled old.state signature
  pub handles : Handles old.problem.problem.setting old.state signature outcome
  pub problem : new.problem ≡ old.problem
  pub handled : new.handled ≡ old.handled + 1
  pub state : new.state ≡ untraced (state_after old.state signature outcome)

-- σ lies within the bound and is the signature of an ambiguity that the outcome at τ brings
abbrev pub IsBrought : Problem → State → Monomial → Outcome → Sig → Type 0
IsBrought P state τ o σ =
    HasDegree P.setting σ × IsWithin P (monomial_of σ)
    × BringsAmbiguity P.setting state τ o (monomial_of σ)

-- the leads of the later snapshot, and the signatures that its step brings
pub record AreNews (old new : Snapshot) (leads : List Lead) (signatures : List Sig) : Type 0 where
  pub listed : LeadsOf new leads
  pub exact : (step : IsStep old new) (σ : Sig) → Contains signatures σ
      ↔ IsBrought old.problem.problem old.state step.signature step.outcome σ

-- the later snapshot and its leads are those after an outcome at τ, and the signatures that it
-- brings were added
pub record IsAdvance (s : Snapshot) (τ : Monomial) (later : Snapshot) (leads : List Lead)
    (old new : List Sig) : Type 0 where
  pub outcome : Outcome
  pub handles : Handles s.problem.problem.setting s.state τ outcome
  pub snapshot : later ≡ record {
    problem = s.problem;
    handled = s.handled + 1;
    state = untraced (state_after s.state τ outcome);
  }
  pub listed : LeadsOf later leads
  pub ascending : IsAscending new
  pub added : (σ : Sig) → Contains new σ
      ↔ (Contains old σ ⊎ IsBrought s.problem.problem s.state τ outcome σ)
