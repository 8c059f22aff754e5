use Rattle.nc_algebra.specs.Sums.{Term}
use Rattle.nc_algebra.specs.Words.{Word}
use Rattle.nc_snapshot.proofs.Leads.{first_coefficient_leads}
use Rattle.nc_snapshot.specs.Leads.{IsLeadCoefficientOf}
use Rattle.std.proofs.Common.{ap, subst, sym}
use Rattle.nc_snapshot.proofs.entry.Entry.lead_coefficient.Goals as goal

pub returns : goal.returns
returns c =
    subst (IsLeadCoefficientOf c.args.self.now.polynomial)
    (ap (λ (t : Term Word). t.coefficient) (sym c.term.view_is))
    (first_coefficient_leads c.args.self.now.polynomial c.lead_term-term.result.now
    c.lead_term-term.ensures.first.0 c.lead_term-term.ensures.first.1
    c.lead_term-term.ensures.some)
