use Rattle.nc_algebra.specs.Sums.{Term}
use Rattle.nc_algebra.specs.Words.{Word}
use Rattle.nc_snapshot.proofs.Leads.{first_leads}
use Rattle.nc_snapshot.specs.Leads.{IsLeadOf}
use Rattle.std.proofs.Common.{ap, subst, sym}
use Rattle.nc_snapshot.proofs.entry.Entry.lead.Goals as goal

pub returns : goal.returns
returns c =
    subst (IsLeadOf c.args.self.now.polynomial) (ap (λ (t : Term Word). t.key) (sym c.term.view_is))
    (first_leads c.args.self.now.polynomial c.lead_term-term.result.now
    c.lead_term-term.ensures.first.0 c.lead_term-term.ensures.first.1)
