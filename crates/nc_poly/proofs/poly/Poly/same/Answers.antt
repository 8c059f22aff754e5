use Rattle.nc_poly.proofs.Equality.{terms_decide}
use Rattle.nc_poly.proofs.poly.Poly.same.Goals as goal

pub returns : goal.returns
returns c =
    rw (← c.terms.ensures.terms, ← c.terms-2.ensures.terms, c.eq.ensures)
    (terms_decide c.terms.result.now c.terms-2.result.now)
