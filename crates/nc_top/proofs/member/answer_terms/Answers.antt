use Rattle.nc_algebra.specs.Problems.{NamedProblem, setting_of}
use Rattle.nc_module.specs.Modules.{element_of}
use Rattle.nc_print.specs.Printing.{terms_text}
use Rattle.nc_snapshot.specs.Snapshots.{IsSnapshot, Snapshot}
use Rattle.nc_top.proofs.MemberEnds.{TermsFacts, terms_facts, written_new}
use Rattle.std.proofs.Common.{ap, subst, ◌∙◌}
use Rattle.nc_top.proofs.member.answer_terms.Goals.{After-setting}
use Rattle.nc_top.proofs.member.answer_terms.Goals as goal

facts : (c : After-setting) → TermsFacts c.args.asked.now c.setting.result.now c.args.m.now
facts c =
    terms_facts c.args.asked.now c.requires.asked
    (subst IsSnapshot c.snapshot.ensures.snapshot c.problem-problem.ensures.snapshot)
    c.snapshot.ensures.ended c.setting.result.now
    (c.setting.ensures.setting ∙ ap (λ (P : NamedProblem). setting_of P)
    (c.deref.ensures ∙ (c.problem-problem.ensures.problem
    ∙ ap (λ (s : Snapshot). s.problem) c.snapshot.ensures.snapshot))) c.requires.form
    c.args.m.now c.requires.m

pub write_terms-requires-clause-claim : goal.write_terms-requires-clause-claim
write_terms-requires-clause-claim c =
    (facts (goal.at.write_terms-requires-clause-claim c).After-setting).claim

pub write_terms-requires-clause-left : goal.write_terms-requires-clause-left
write_terms-requires-clause-left c =
    (facts (goal.at.write_terms-requires-clause-left c).After-setting).left

pub write_terms-requires-clause-right : goal.write_terms-requires-clause-right
write_terms-requires-clause-right c =
    (facts (goal.at.write_terms-requires-clause-right c).After-setting).right

pub returns : goal.returns
returns c =
    (facts (goal.at.returns c).After-setting).answer c.write_terms.new.out.items
    (written_new c.write_terms.new.out.items c.new-report.result.items
    (terms_text c.setting.result.now c.args.asked.now.claim.now (element_of c.args.m.now))
    c.in_ok-write_terms.ensures.text c.new-report.ensures.items)
