use Rattle.nc_algebra.proofs.NormalForms.{normal_form_descends}
use Rattle.nc_poly.proofs.poly.Poly.of_terms.Goals as goal

pub invariant_of-result : goal.invariant_of-result
invariant_of-result c =
    rw c.collect.ensures.normal (normal_form_descends c.args.p c.args.terms.items)
