use Rattle.std.proofs.lemmas.Result.{IfOk-weaker}
use Rattle.nc_top.proofs.basis.shown_of.Goals as goal

pub returns-in-Full-clause-short : goal.returns-in-Full-clause-short
returns-in-Full-clause-short c =
    IfOk-weaker c.labels_of.result _ _ (λ s f run a full. f run a) c.labels_of.ensures.short
