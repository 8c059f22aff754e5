-- How a run on one thread ends: complete, or by the budget of its problem with the next signature.
--
-- The end of the code carries a degree beside the signature.
use Rattle.nc_algebra.specs.Elements.{HasDegree, Setting}
use Rattle.nc_algebra.specs.Monomials.{monomial_of}
use Rattle.nc_desk.specs.Desks.{MayStep}
use Rattle.nc_desk.specs.declared.finished.End.{End}
use Rattle.nc_desk.specs.declared.finished.End.TheVariants.{Budget, Complete}
use Rattle.nc_index.specs.Pairs.{Lead}
use Rattle.nc_reduce.specs.Leads.{LeadsOf}
use Rattle.nc_theory.specs.Untraced.{IsEndOf}
use Rattle.nc_snapshot.specs.Snapshots.{Snapshot}
use Rattle.nc_theory.specs.Runs.{End as Ending}
use Rattle.std.specs.Prelude.{List, None, Option, Some, ℕ}

-- the variants as the theory has them
abbrev pub end_of : End → Ending
end_of Complete = Ending.complete
end_of (Budget σ) = Ending.budget (monomial_of σ.value)

-- the degree beside a budget's signature is its degree in the setting
abbrev pub HasEndDegree : Setting → End → Type 0
HasEndDegree s Complete = Unit {0}
HasEndDegree s (Budget σ) = HasDegree s σ.value

-- the snapshot's state is that at the end of its problem
abbrev pub IsEndAt : Snapshot → Ending → Type 0
IsEndAt s ending = IsEndOf s.problem.problem s.handled s.state ending

-- the end that is reached, and None exactly where the next signature may be handled
abbrev pub IsEndIfAny : Snapshot → Option End → Type 0
IsEndIfAny s None = MayStep s
IsEndIfAny s (Some e) = IsEndAt s (end_of e) × HasEndDegree s.problem.problem.setting e

-- a snapshot at its end, how it ends, and how many signatures were handled on the way
pub record Finished : Type 0 where
  pub snapshot : Snapshot
  pub ending : Ending
  pub driven : ℕ

-- the leads are those of its entries, and the end is reached
pub record IsFinishedRun (s : Snapshot) (leads : List Lead) (e : End) : Type 0 where
  pub listed : LeadsOf s leads
  pub ends : IsEndAt s (end_of e)
  pub degree : HasEndDegree s.problem.problem.setting e
