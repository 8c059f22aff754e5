use Rattle.nc_algebra.specs.Monomials.{Sig, monomial_of}
use Rattle.nc_desk.specs.Ends.{IsEndAt, end_of}
use Rattle.nc_snapshot.specs.Snapshots.{Snapshot}
use Rattle.nc_report.proofs.Letters.{budget_named}
use Rattle.nc_report.specs.Letters.{IsMonomialNamed}
use Rattle.nc_report.proofs.Numbered.{complete_line}
use Rattle.std.proofs.Common.{ap, length, subst, sym, ◌∙◌}
use Rattle.nc_report.proofs.listing.write_end.Goals as goal

pub write_budget-requires : goal.write_budget-requires
write_budget-requires c =
    subst (λ (t : Sig). IsMonomialNamed (length c.names_of.result.now) (monomial_of t))
    (sym c.deref.ensures)
    (budget_named c.snapshot-snapshot.result.now c.recall_rule.ensures.snapshot
    c.args.finished.now.ending (subst (λ (s : Snapshot). IsEndAt s c.args.finished.now.ending)
    (sym c.snapshot-snapshot.ensures.snapshot) c.snapshot-snapshot.ensures.ended)
    (monomial_of c.in-Budget.next.value) (ap end_of (sym c.in-Budget.is) ∙ c.end.ensures.end)
    c.names_of.result.now c.names_of.ensures)

pub returns-in-Complete : goal.returns-in-Complete
returns-in-Complete c =
    complete_line c.write_complete.result c.write_complete.new.out.items c.args.out.now.items
    c.args.finished.now.snapshot.problem.alphabet.names c.args.finished.now.ending
    (ap end_of (sym c.in-Complete.is) ∙ c.end.ensures.end) c.write_complete.ensures
