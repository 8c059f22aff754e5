use Rattle.nc_poly.proofs.Tops.{top_shown}
use Rattle.std.proofs.Common.{sym, ◌∙◌}
use Rattle.nc_poly.proofs.sum.Sum.greatest.Goals as goal

pub returns-in-Some-clause-none : goal.returns-in-Some-clause-none
returns-in-Some-clause-none g c =
    let top =
    top_shown c.self.inside.kept.entries c.in-Some.key.now c.in-Some.slot.now c.self.invariant.0
    c.in-Some.ensures.last in
    ((λ e. cc), (λ e. let h = sym e ∙ (sym c.self.view_is ∙ top.1) in cc))

pub returns-in-Some-clause-some : goal.returns-in-Some-clause-some
returns-in-Some-clause-some g c =
    let top =
    top_shown c.self.inside.kept.entries c.in-Some.key.now c.in-Some.slot.now c.self.invariant.0
    c.in-Some.ensures.last in
    (top.0, sym c.self.view_is ∙ top.1)
