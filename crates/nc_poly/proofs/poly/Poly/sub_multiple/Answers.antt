use Rattle.nc_algebra.proofs.NormalForms.{normal_form_descends}
use Rattle.nc_algebra.specs.Polynomials.{AreResidues, Polynomial, normal_form}
use Rattle.nc_poly.proofs.Multiples.{multiples_are_residues, subtracted}
use Rattle.nc_poly.specs.Multiples.{multiples_of}
use Rattle.std.proofs.Common.{ap, ap₂, arith, subst, sym, ◌%◌, ◌++◌, ◌-◌, ◌<◌, ◌∙◌, ◌≡◌}
use Rattle.std.proofs.lemmas.List.Elements.{All-append}
use Rattle.nc_poly.proofs.poly.Poly.sub_multiple.Goals.{In_ok-append}
use Rattle.nc_poly.proofs.poly.Poly.sub_multiple.Goals as goal

-- the list that is brought into normal form
appended : (c : In_ok-append)
    → c.append.new.self.items ≡ c.args.self.now
    ++ multiples_of c.args.p ((c.args.p - c.args.c) % c.args.p) c.args.u.now c.args.g.now
    c.args.v.now
appended c =
    c.in_ok-append.ensures.items
    ∙ ap₂ (λ (f g : Polynomial). f ++ g) c.self.view_is (c.in_ok-push_multiple.ensures.appended
    ∙ (ap₂ (λ (l : Polynomial) n. l ++ multiples_of c.args.p n c.args.u.now c.terms-2.result.now
    c.args.v.now) c.in_ok-product.ensures.items c.neg.ensures.value
    ∙ ap (λ (g : Polynomial). multiples_of c.args.p ((c.args.p - c.args.c) % c.args.p) c.args.u.now
    g c.args.v.now) c.terms-2.ensures.terms))

pub collect-requires : goal.collect-requires
collect-requires c =
    subst (λ (l : Polynomial). AreResidues c.args.p l)
    (sym (appended (goal.at.collect-requires c).In_ok-append))
    (All-append (λ t. t.coefficient < c.args.p) c.args.self.now
    (multiples_of c.args.p ((c.args.p - c.args.c) % c.args.p) c.args.u.now c.args.g.now
    c.args.v.now) c.requires.residues
    (multiples_are_residues c.args.p ((c.args.p - c.args.c) % c.args.p) c.args.u.now c.args.v.now
    c.args.g.now (omega arith)))

pub invariant_of-self-2 : goal.invariant_of-self-2
invariant_of-self-2 c =
    rw c.collect.ensures.normal (normal_form_descends c.args.p c.append.new.self.items)

pub returns-clause-difference : goal.returns-clause-difference
returns-clause-difference c =
    c.collect.ensures.normal
    ∙ (ap (normal_form c.args.p) (appended (goal.at.returns-clause-difference c).In_ok-append)
    ∙ subtracted c.args.p c.args.c c.args.u.now c.args.v.now c.args.self.now c.args.g.now
    c.requires.factor)
