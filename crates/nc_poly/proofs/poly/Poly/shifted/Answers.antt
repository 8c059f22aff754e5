use Rattle.nc_algebra.specs.Polynomials.{IsDescending, Polynomial, polynomial_times}
use Rattle.nc_poly.proofs.Shifts.{shifted_descends, shifted_is}
use Rattle.nc_poly.specs.Multiples.{shifted_of}
use Rattle.std.proofs.Common.{ap, ap₂, map, subst, sym, ◌++◌, ◌∙◌, ◌≡◌}
use Rattle.nc_poly.proofs.poly.Poly.shifted.Goals as goal

pub invariant_of-result : goal.invariant_of-result
invariant_of-result c =
    let u = c.args.u.now in
    let v = c.args.v.now in
    let f : Polynomial = c.self.inside.kept.items in
    let is : c.push_shifted.new.out.items ≡ polynomial_times u f v =
    c.in_ok-push_shifted.ensures.appended
    ∙ (ap₂ (λ (a b : Polynomial). a ++ map (shifted_of u v) b) c.in_ok-kept.ensures.items
    c.as_slice.ensures.value ∙ shifted_is u v f) in
    subst (λ (g : Polynomial). IsDescending g) (sym is) (shifted_descends u v f c.self.invariant)

pub returns : goal.returns
returns c =
    let u = c.args.u.now in
    let v = c.args.v.now in
    let f : Polynomial = c.self.inside.kept.items in
    c.in_ok-push_shifted.ensures.appended
    ∙ (ap₂ (λ (a b : Polynomial). a ++ map (shifted_of u v) b) c.in_ok-kept.ensures.items
    c.as_slice.ensures.value ∙ (shifted_is u v f
    ∙ ap (λ (g : Polynomial). polynomial_times u g v) c.self.view_is))
