use Rattle.nc_algebra.specs.Polynomials.{Polynomial}
use Rattle.nc_snapshot.proofs.Leads.{first_term}
use Rattle.nc_snapshot.specs.Snapshots.{Signed}
use Rattle.std.proofs.Common.{[], ap, subst, sym, ◌∷◌, ◌∙◌, ◌≡◌, ◌≢◌}
use Rattle.nc_snapshot.proofs.entry.Entry.lead_term.Goals as goal

pub returns-clause-first : goal.returns-clause-first
returns-clause-first c =
    let is : c.terms-terms.result.now ≡ c.self.inside.poly = c.terms-terms.ensures.terms in
    subst (λ (f : Polynomial). (x : Polynomial) × (f ≡ c.index-terms-0.result ∷ x))
    (is ∙ ap (λ (e : Signed). e.polynomial) c.self.view_is)
    (first_term c.terms-terms.result.now
    (subst (λ (f : Polynomial). f ≢ []) (sym is) c.self.invariant)
    c.index-terms-0.result c.index-terms-0.is)
