use Rattle.nc_top.proofs.Inputs.{unread_answer}
use Rattle.nc_text.specs.Certificates.{reads_certificate}
use Rattle.nc_top.specs.Check.{IsCheckAnswer}
use Rattle.std.proofs.lemmas.Result.{IfOk-weaker}
use Rattle.nc_top.proofs.check.answer_check.Goals as goal

pub returns-in-Err : goal.returns-in-Err
returns-in-Err c =
    IfOk-weaker c.answer_unread.result _ _ (λ r. unread_answer (IsCheckAnswer c.args.bytes.now)
    reads_certificate c.args.bytes.now c.in-Err.fault (λ line kind report is. is) c.requires
    c.in-Err.ensures r.0 r.1.items) c.answer_unread.ensures
