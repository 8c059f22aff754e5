use Rattle.nc_cofactor.proofs.Needing.{named_within}
use Rattle.nc_snapshot.specs.declared.outcome.Listed.TheVariants.{Entry as EntryOf}
use Rattle.std.proofs.Common.{length}
use Rattle.nc_cofactor.proofs.sweep.slot_at.Goals as goal

pub mark-requires : goal.mark-requires
mark-requires c =
    named_within c.args.snapshot.now.problem c.recall_rule.ensures.snapshot.problem
    c.args.snapshot.now.handled c.args.snapshot.now.state c.recall_rule.ensures.snapshot.run
    (EntryOf c.args.number) c.in_ok-trace.trace c.in_ok-trace.ensures (length c.args.marks.now)
    c.requires.size
