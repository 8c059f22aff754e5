use Rattle.nc_cofactor.specs.Firsts.{AreWithin}
use Rattle.nc_cofactor.specs.Terms.{LabelTerms}
use Rattle.nc_snapshot.specs.Snapshots.{Snapshot}
use Rattle.nc_theory.specs.States.{State}
use Rattle.nc_top.proofs.Limits.{all_short, entry_fault, syzygy_fault}
use Rattle.nc_report.specs.Shown.{FailsToShow, IsRunAt}
use Rattle.std.proofs.Common.{subst₂, ℕ}
use Rattle.nc_top.proofs.basis.labels_of.Goals as goal

pub returns-in-Err-clause-fault : goal.returns-in-Err-clause-fault
returns-in-Err-clause-fault c =
    subst₂ (λ (s : Snapshot) (n : ℕ). FailsToShow s n c.in-Err.fault)
    c.snapshot-snapshot.ensures.snapshot c.from-limit.ensures
    (entry_fault c.snapshot-snapshot.result.now c.recall_rule.ensures.snapshot c.from-limit.result
    c.in-Err.fault c.in-Err.ensures.fault)

pub returns-in-Ok-syzygies-clause-short : goal.returns-in-Ok-syzygies-clause-short
returns-in-Ok-syzygies-clause-short c =
    subst₂ (λ (s : Snapshot) (n : ℕ). (run : State) → IsRunAt s run
    → AreWithin (LabelTerms s.problem.problem.setting.prime run) n)
    c.snapshot-snapshot.ensures.snapshot c.from-limit.ensures
    (all_short c.snapshot-snapshot.result.now c.recall_rule.ensures.snapshot c.from-limit.result
    c.in-Ok.entries c.in-Ok.ensures.labels c.in-Ok.ensures.all c.in-Ok.ensures.few
    c.in-Ok-syzygies.syzygies.items c.in-Ok-syzygies.ensures.labels
    c.in-Ok-syzygies.ensures.all c.in-Ok-syzygies.ensures.few)

pub returns-in-Err-syzygies-clause-fault : goal.returns-in-Err-syzygies-clause-fault
returns-in-Err-syzygies-clause-fault c =
    subst₂ (λ (s : Snapshot) (n : ℕ). FailsToShow s n c.in-Err-syzygies.fault)
    c.snapshot-snapshot.ensures.snapshot c.from-limit.ensures
    (syzygy_fault c.snapshot-snapshot.result.now c.recall_rule.ensures.snapshot c.from-limit.result
    c.in-Ok.entries c.in-Ok.ensures.labels c.in-Ok.ensures.all c.in-Ok.ensures.few
    c.in-Err-syzygies.fault c.in-Err-syzygies.ensures.fault)
