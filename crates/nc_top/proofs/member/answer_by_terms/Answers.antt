use Rattle.nc_cofactor.specs.declared.fault.CofactorFault.{CofactorFault}
use Rattle.nc_cofactor.specs.declared.fault.CofactorFault.TheVariants.{TooMany}
use Rattle.nc_member.specs.Members.{FailsToAnswer}
use Rattle.nc_snapshot.specs.Snapshots.{IsSnapshot}
use Rattle.nc_snapshot.specs.declared.outcome.Listed.{Listed}
use Rattle.nc_top.proofs.Claims.{claim_in}
use Rattle.nc_top.proofs.MemberEnds.{too_many_answer}
use Rattle.std.proofs.Common.{subst, subst₂, sym, ℕ}
use Rattle.nc_top.proofs.member.answer_by_terms.Goals as goal

pub member-requires-clause-claim : goal.member-requires-clause-claim
member-requires-clause-claim c =
    claim_in c.args.asked.now.bytes.now c.args.asked.now.finished.now.snapshot.problem
    c.args.asked.now.claim.now c.requires.asked

pub returns-in_ok-too_many_report-in-Err-TooMany : goal.returns-in_ok-too_many_report-in-Err-TooMany
returns-in_ok-too_many_report-in-Err-TooMany c =
    too_many_answer c.args.asked.now c.requires.asked
    (subst IsSnapshot c.snapshot-snapshot.ensures.snapshot c.recall_rule.ensures.snapshot)
    c.snapshot-snapshot.ensures.ended c.requires.form _ _
    c.in_ok-too_many_report-in-Err-TooMany.field-0.items
    (subst₂ (λ (l : Listed) (n : ℕ). FailsToAnswer c.args.asked.now.finished.now
    c.args.asked.now.claim.now c.args.asked.now.options.limit (TooMany l n))
    (sym c.in-Err-TooMany.listed-is) (sym c.in-Err-TooMany.terms-is)
    (subst (λ (f : CofactorFault). FailsToAnswer c.args.asked.now.finished.now
    c.args.asked.now.claim.now c.args.asked.now.options.limit f) c.in-Err-TooMany.field-0-is
    (subst (λ (n : ℕ). FailsToAnswer c.args.asked.now.finished.now c.args.asked.now.claim.now n
    c.in-Err-TooMany.field-0) c.from-limit.ensures c.in-Err-TooMany.ensures.fault)))
    c.in_ok-too_many_report-in-Err-TooMany.ensures
