use Rattle.nc_report.proofs.Letters.{entry_named, entry_words}
use Rattle.nc_report.proofs.named.entry_at.Goals as goal

pub returns-clause-signature : goal.returns-clause-signature
returns-clause-signature c =
    entry_named c.args.snapshot.now c.recall_rule.ensures.snapshot _ _ c.entry.ensures.entry

pub returns-clause-words : goal.returns-clause-words
returns-clause-words c =
    entry_words c.args.snapshot.now c.recall_rule.ensures.snapshot _ _ c.entry.ensures.entry
