use Rattle.nc_snapshot.specs.Snapshots.{IsSnapshot, Snapshot}
use Rattle.nc_top.proofs.MemberEnds.{RestFacts, rest_facts}
use Rattle.std.proofs.Common.{ap, subst, ◌∙◌}
use Rattle.nc_top.proofs.member.answer_not_below.Goals.{After-names_of}
use Rattle.nc_top.proofs.member.answer_not_below.Goals as goal

facts : (c : After-names_of) → RestFacts c.args.asked.now c.names_of.result.now c.args.rest.now
facts c =
    rest_facts c.args.asked.now c.requires.asked
    (subst IsSnapshot c.snapshot-snapshot.ensures.snapshot c.recall_rule.ensures.snapshot)
    c.snapshot-snapshot.ensures.ended c.names_of.result.now
    (c.names_of.ensures ∙ ap (λ (s : Snapshot). s.problem.alphabet.names)
    c.snapshot-snapshot.ensures.snapshot) c.args.rest.now c.requires.rest

pub not_below_report-requires : goal.not_below_report-requires
not_below_report-requires c = (facts (goal.at.not_below_report-requires c).After-names_of).named

pub returns : goal.returns
returns c =
    (facts (goal.at.returns c).After-names_of).answer c.in_ok-report.report.items
    c.in_ok-report.ensures
