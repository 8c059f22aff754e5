use Rattle.nc_algebra.specs.Monomials.{Sig, monomial_of}
use Rattle.nc_overlap.proofs.Additions.{adds_one}
use Rattle.nc_overlap.proofs.Sides.{multiple_degree}
use Rattle.nc_overlap.specs.Overlaps.{AddsAmbiguities}
use Rattle.nc_overlap.specs.Sides.{side_sig}
use Rattle.std.proofs.Common.{List, [], ap, map, sym, subst, ◌∙◌, ◌++◌, ◌∷◌, ◌≡◌}
use Rattle.std.proofs.lemmas.List.{map-append}
use Rattle.std.specs.Arc.{arc_value}
use Rattle.nc_overlap.proofs.found.add_side.Goals as goal

pub returns-in_ok-push : goal.returns-in_ok-push
returns-in_ok-push c =
    let σ : Sig = side_sig c.args.side.now in
    let old : List Sig = map arc_value c.args.found.now.items in
    let pushed : map arc_value c.push.new.self.items ≡ old ++ σ ∷ [] =
    ap (map arc_value) c.in_ok-push.ensures.items
    ∙ (map-append arc_value c.args.found.now.items (c.in_ok-new.field-0 ∷ [])
    ∙ ap (λ ρ. old ++ ρ ∷ []) (c.in_ok-new.ensures.ok ∙ c.in_ok-sig.ensures)) in
    subst (AddsAmbiguities c.args.problem.now.problem (λ ρ. ρ ≡ monomial_of σ) old) (sym pushed)
    (adds_one c.args.problem.now.problem old σ
    (multiple_degree c.args.problem.now.problem.setting c.args.side.now.left.now
    c.args.side.now.right.now c.args.side.now.sig.now c.requires.over.degree)
    (c.is_within.ensures.0 c.if-is_within.true))
