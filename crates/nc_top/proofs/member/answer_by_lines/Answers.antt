use Rattle.nc_top.proofs.Claims.{claim_in}
use Rattle.nc_top.proofs.member.answer_by_lines.Goals as goal

pub prove-requires-clause-claim : goal.prove-requires-clause-claim
prove-requires-clause-claim c =
    claim_in c.args.asked.now.bytes.now c.args.asked.now.finished.now.snapshot.problem
    c.args.asked.now.claim.now c.requires.asked
