use Rattle.nc_algebra.specs.Polynomials.{Polynomial}
use Rattle.nc_text.proofs.Reaches.{longest_more, longest_whole}
use Rattle.std.proofs.Common.{List, ap, arith, get_or, length, max, refl, subst, ◌∙◌, ◌<◌}
use Rattle.nc_text.proofs.lines.longest.Goals as goal

pub terms-init : goal.terms-init
terms-init c = refl

pub terms-preserved : goal.terms-preserved
terms-preserved c =
    let f : Polynomial = c.args.f.now in
    let within =
    subst (λ (g : Polynomial). c.terms.t-index < length g) c.terms-t-items.ensures.terms
    c.terms-test.true in
    let is =
    c.t-item.is ∙ ap (λ (g : Polynomial). get_or g c.terms.t-index c.t-item.result)
    c.terms-t-items.ensures.terms in
    c.max-most.ensures ∙ ap (λ (w : List _). max (length w) c.terms.most) c.letters.ensures.letters
    ∙ longest_more f c.terms.t-index c.t-item.result c.terms.most within is c.terms.invariant

pub returns : goal.returns
returns c =
    longest_whole c.args.f.now c.terms.t-index c.terms.most
    (omega (arith, c.terms-test.false, ap length c.terms-t-items.ensures.terms)) c.terms.invariant
