use Rattle.nc_report.proofs.Showing.{trace_in, trace_named}
use Rattle.std.proofs.lemmas.Result.{IfOk-weaker}
use Rattle.nc_report.proofs.shown.named_trace.Goals as goal

pub returns-clause-trace : goal.returns-clause-trace
returns-clause-trace c =
    IfOk-weaker c.trace_of.result _ _
    (trace_in c.args.listing.now.snapshot.now c.recall_rule.ensures.snapshot c.args.listed) c.trace_of.ensures

pub returns-clause-named : goal.returns-clause-named
returns-clause-named c =
    IfOk-weaker c.trace_of.result _ _
    (trace_named c.args.listing.now.snapshot.now c.recall_rule.ensures.snapshot c.args.listed)
    c.trace_of.ensures
