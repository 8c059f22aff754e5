use Rattle.nc_report.proofs.Letters.{syzygy_named}
use Rattle.nc_report.proofs.named.syzygy_at.Goals as goal

pub returns-clause-named : goal.returns-clause-named
returns-clause-named c =
    syzygy_named c.args.snapshot.now c.recall_rule.ensures.snapshot _ _ c.syzygy.ensures.syzygy
