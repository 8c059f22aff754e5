use Rattle.nc_cofactor.proofs.Runs.{next_named}
use Rattle.nc_cofactor.proofs.labels.entry_label.Goals as goal

pub item_label-requires : goal.item_label-requires
item_label-requires c =
    next_named c.args.snapshot.now.problem c.recall_rule.ensures.snapshot.problem
    c.args.snapshot.now.handled c.args.labels.now c.requires.labels c.args.number
    c.in_ok-trace.trace c.in_ok-trace.ensures c.requires.next
