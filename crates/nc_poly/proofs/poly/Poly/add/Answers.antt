use Rattle.nc_algebra.proofs.NormalForms.{normal_form_descends}
use Rattle.nc_poly.proofs.poly.Poly.add.Goals as goal

pub invariant_of-self-2 : goal.invariant_of-self-2
invariant_of-self-2 c =
    rw c.collect.ensures.normal (normal_form_descends c.args.p c.append.new.self.items)
