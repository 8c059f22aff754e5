use Rattle.nc_top.proofs.Inputs.{unread_answer}
use Rattle.nc_top.specs.Member.{IsMemberAnswer, reads_claim}
use Rattle.std.proofs.lemmas.Result.{IfOk-weaker}
use Rattle.nc_top.proofs.member.answer_member.Goals as goal

pub returns-in-Err : goal.returns-in-Err
returns-in-Err c =
    IfOk-weaker c.answer_unread.result _ _ (λ r.
    unread_answer (IsMemberAnswer c.args.options c.args.bytes.now) reads_claim c.args.bytes.now c.in-Err.fault (λ line kind report is. is) c.requires.small
    c.in-Err.ensures r.0 r.1.items) c.answer_unread.ensures
