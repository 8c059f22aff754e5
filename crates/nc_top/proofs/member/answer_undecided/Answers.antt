use Rattle.nc_algebra.specs.Monomials.{Sig, monomial_of}
use Rattle.nc_desk.specs.Ends.{end_of}
use Rattle.nc_report.proofs.Letters.{budget_named}
use Rattle.nc_report.specs.Letters.{IsMonomialNamed}
use Rattle.nc_snapshot.specs.Snapshots.{IsSnapshot, Snapshot}
use Rattle.nc_theory.specs.Runs.{End}
use Rattle.nc_top.proofs.MemberEnds.{OpenFacts, open_facts}
use Rattle.std.proofs.Common.{ap, length, subst, sym, ◌∙◌, ◌≡◌}
use Rattle.nc_top.proofs.member.answer_undecided.Goals.{After-names_of}
use Rattle.nc_top.proofs.member.answer_undecided.Goals as goal

is_snapshot : (c : After-names_of) → IsSnapshot c.args.asked.now.finished.now.snapshot
is_snapshot c = subst IsSnapshot c.snapshot-snapshot.ensures.snapshot c.recall_rule.ensures.snapshot

names_are : (c : After-names_of)
    → c.names_of.result.now ≡ c.args.asked.now.finished.now.snapshot.problem.alphabet.names
names_are c =
    c.names_of.ensures ∙ ap (λ (s : Snapshot). s.problem.alphabet.names)
    c.snapshot-snapshot.ensures.snapshot

facts : (c : After-names_of) → OpenFacts c.args.asked.now c.names_of.result.now c.args.rest.now
facts c =
    open_facts c.args.asked.now c.requires.asked (is_snapshot c) c.snapshot-snapshot.ensures.ended
    c.names_of.result.now (names_are c) c.args.rest.now c.requires.rest

pub undecided_report-requires-clause-next : goal.undecided_report-requires-clause-next
undecided_report-requires-clause-next c =
    subst (λ (t : Sig). IsMonomialNamed (length c.names_of.result.now) (monomial_of t))
    (sym c.deref.ensures)
    (budget_named c.args.asked.now.finished.now.snapshot
    (is_snapshot (goal.at.undecided_report-requires-clause-next c).After-names_of)
    c.args.asked.now.finished.now.ending c.snapshot-snapshot.ensures.ended
    (monomial_of c.in-Budget.next.value) (ap end_of (sym c.in-Budget.is) ∙ c.end.ensures.end)
    c.names_of.result.now
    (names_are (goal.at.undecided_report-requires-clause-next c).After-names_of))

pub undecided_report-requires-clause-rest : goal.undecided_report-requires-clause-rest
undecided_report-requires-clause-rest c =
    (facts (goal.at.undecided_report-requires-clause-rest c).After-names_of).named

pub returns : goal.returns
returns c =
    (facts (goal.at.returns c).After-names_of).answer (monomial_of c.deref.result.now)
    c.in_ok-report-in-Budget.report.items
    (ap (λ (t : Sig). End.budget (monomial_of t)) c.deref.ensures
    ∙ (ap end_of (sym c.in-Budget.is) ∙ c.end.ensures.end)) c.in_ok-report-in-Budget.ensures
