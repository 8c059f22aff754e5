use Rattle.nc_top.proofs.Inputs.{unread_answer}
use Rattle.nc_top.specs.Basis.{IsBasisAnswer, reads_relations}
use Rattle.std.proofs.lemmas.Result.{IfOk-weaker}
use Rattle.nc_top.proofs.basis.answer_basis.Goals as goal

pub returns-in-Err : goal.returns-in-Err
returns-in-Err c =
    IfOk-weaker c.answer_unread.result _ _ (λ r.
    unread_answer (IsBasisAnswer c.args.options c.args.bytes.now) reads_relations c.args.bytes.now c.in-Err.fault (λ line kind report is. is) c.requires.small
    c.in-Err.ensures r.0 r.1.items) c.answer_unread.ensures
