use Rattle.nc_algebra.specs.Polynomials.{IsDescending, Polynomial, coefficient}
use Rattle.nc_poly.proofs.Searching.{beside, found, missed}
use Rattle.std.proofs.Common.{Err, Ok, ap, rules, subst, sym, ◌∙◌, ◌≡◌}
use Rattle.std.proofs.lemmas.Fn.{always_returns_same}
use Rattle.std.specs.List.Sorted.{IsBinarySearchResult}
use Rattle.nc_poly.proofs.poly.Poly.coefficient.Goals.{After-as_slice-terms}
use Rattle.nc_poly.proofs.poly.Poly.coefficient.Goals as goal

-- the list that is searched is the polynomial's, and descends
is_own : (c : After-as_slice-terms) → c.as_slice-terms.result.now ≡ c.args.self.now
is_own c = c.as_slice-terms.ensures.value ∙ c.self.view_is

falls : (c : After-as_slice-terms) → IsDescending c.as_slice-terms.result.now
falls c =
    subst (λ (g : Polynomial). IsDescending g) (sym c.as_slice-terms.ensures.value) c.self.invariant

pub returns-in-Ok : goal.returns-in-Ok
returns-in-Ok c =
    let w = c.args.word.now in
    let f : Polynomial = c.as_slice-terms.result.now in
    let here = (goal.at.returns-in-Ok c).After-as_slice-terms in
    let r : IsBinarySearchResult (beside w) f (Ok c.in-Ok.at) =
    c.in-Ok.ensures.position (beside w) (always_returns_same _ _ _ (λ a r g h. search rules)) in
    ap (λ t. t.coefficient) c.term.view_is
    ∙ (found w f (falls here) c.in-Ok.at c.in-Ok.ensures.bound r c.index-terms-at.result
    c.index-terms-at.is ∙ ap (λ (g : Polynomial). coefficient g w) (is_own here))

pub returns-in-Err : goal.returns-in-Err
returns-in-Err c =
    let w = c.args.word.now in
    let f : Polynomial = c.as_slice-terms.result.now in
    let here = (goal.at.returns-in-Err c).After-as_slice-terms in
    let r : IsBinarySearchResult (beside w) f (Err c.in-Err.field-0) =
    c.in-Err.ensures.position (beside w) (always_returns_same _ _ _ (λ a r g h. search rules)) in
    sym (missed w f (falls here) c.in-Err.field-0 r)
    ∙ ap (λ (g : Polynomial). coefficient g w) (is_own here)
