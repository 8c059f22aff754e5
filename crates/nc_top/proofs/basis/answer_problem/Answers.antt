use Rattle.nc_cofactor.specs.declared.fault.CofactorFault.{CofactorFault}
use Rattle.nc_snapshot.specs.Snapshots.{IsSnapshot}
use Rattle.nc_top.proofs.Ending.{answer_at, many_at}
use Rattle.nc_report.specs.Shown.{FailsToShow}
use Rattle.std.proofs.Common.{subst}
use Rattle.std.proofs.lemmas.Result.{IfOk-weaker}
use Rattle.nc_top.proofs.basis.answer_problem.Goals as goal

pub returns-in-Ok : goal.returns-in-Ok
returns-in-Ok c =
    IfOk-weaker c.answer_run.result _ _ (λ r told.
    answer_at c.in_ok-finished.finished.snapshot
    (subst IsSnapshot c.snapshot-snapshot.ensures.snapshot c.recall_rule-2.ensures.snapshot)
    c.args.options c.args.bytes.now c.args.problem c.requires.text
    c.in_ok-finished.ensures.problem c.in_ok-finished.finished.ending
    c.in_ok-finished.ensures.ended
    c.in-Ok.shown c.in-Ok.ensures.shown c.in-Ok.ensures.kind c.in-Ok.ensures.short
    r.0 r.1.items told.0 told.1)
    c.answer_run.ensures

pub returns-in-Err-TooMany : goal.returns-in-Err-TooMany
returns-in-Err-TooMany c =
    many_at c.in_ok-finished.finished.snapshot
    (subst IsSnapshot c.snapshot-snapshot.ensures.snapshot c.recall_rule-2.ensures.snapshot)
    c.args.options c.args.bytes.now c.args.problem c.requires.text
    c.in_ok-finished.ensures.problem c.in_ok-finished.finished.ending
    c.in_ok-finished.ensures.ended
    c.in-Err-TooMany.listed c.in-Err-TooMany.terms
    c.in_ok-too_many_report-in-Err-TooMany.field-0.items c.in-Err-TooMany.ensures.full
    (subst (λ (f : CofactorFault). FailsToShow c.in_ok-finished.finished.snapshot
    c.args.options.limit f) c.in-Err-TooMany.field-0-is c.in-Err-TooMany.ensures.fault)
    c.in_ok-too_many_report-in-Err-TooMany.ensures
