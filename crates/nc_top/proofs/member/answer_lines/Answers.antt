use Rattle.nc_algebra.specs.Problems.{NamedProblem, setting_of}
use Rattle.nc_print.specs.Printing.{certificate_text}
use Rattle.nc_snapshot.specs.Snapshots.{IsSnapshot, Snapshot}
use Rattle.nc_top.proofs.MemberEnds.{LinesFacts, lines_facts, written_new}
use Rattle.std.proofs.Common.{ap, subst, ◌∙◌}
use Rattle.nc_top.proofs.member.answer_lines.Goals.{After-setting}
use Rattle.nc_top.proofs.member.answer_lines.Goals as goal

facts : (c : After-setting) → LinesFacts c.args.asked.now c.setting.result.now c.args.lines.now
facts c =
    lines_facts c.args.asked.now c.requires.asked
    (subst IsSnapshot c.snapshot.ensures.snapshot c.problem-problem.ensures.snapshot)
    c.snapshot.ensures.ended c.setting.result.now
    (c.setting.ensures.setting ∙ ap (λ (P : NamedProblem). setting_of P)
    (c.deref.ensures ∙ (c.problem-problem.ensures.problem
    ∙ ap (λ (s : Snapshot). s.problem) c.snapshot.ensures.snapshot))) c.requires.form
    c.args.lines.now c.requires.lines

pub write_proof-requires-clause-claim : goal.write_proof-requires-clause-claim
write_proof-requires-clause-claim c =
    (facts (goal.at.write_proof-requires-clause-claim c).After-setting).claim

pub write_proof-requires-clause-left : goal.write_proof-requires-clause-left
write_proof-requires-clause-left c =
    (facts (goal.at.write_proof-requires-clause-left c).After-setting).left

pub write_proof-requires-clause-right : goal.write_proof-requires-clause-right
write_proof-requires-clause-right c =
    (facts (goal.at.write_proof-requires-clause-right c).After-setting).right

pub returns : goal.returns
returns c =
    (facts (goal.at.returns c).After-setting).answer c.write_proof.new.out.items
    (written_new c.write_proof.new.out.items c.new-report.result.items
    (certificate_text (record {
      setting = c.setting.result.now;
      claim = c.args.asked.now.claim.now;
      lines = c.args.lines.now;
    })) c.in_ok-write_proof.ensures.text c.new-report.ensures.items)
