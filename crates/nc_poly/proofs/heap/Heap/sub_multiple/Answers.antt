use Rattle.nc_algebra.specs.Polynomials.{Polynomial, normal_form, polynomial_times}
use Rattle.nc_algebra.specs.Sums.{minus}
use Rattle.nc_poly.proofs.Heaps.{heap_subtracted, pairs_are_residues, words_descend}
use Rattle.nc_poly.specs.Ordered.{listed}
use Rattle.nc_poly.specs.Multiples.{multiples_of}
use Rattle.std.proofs.Common.{ap, ap₂, arith, ◌%◌, ◌++◌, ◌-◌, ◌∙◌, ◌≡◌}
use Rattle.std.proofs.lemmas.Result.{on_ok_weaker}
use Rattle.nc_poly.proofs.heap.Heap.sub_multiple.Goals as goal

pub add_all-requires-clause-factors : goal.add_all-requires-clause-factors
add_all-requires-clause-factors c =
    let is : listed c.push_pairs.new.out.items ≡ multiples_of c.args.p c.neg.result c.args.u.now
    c.terms-2.result.now c.args.v.now =
    c.in_ok-push_pairs.ensures.appended
    ∙ ap (λ l. listed l ++ multiples_of c.args.p c.neg.result c.args.u.now c.terms-2.result.now
    c.args.v.now) c.in_ok-product.ensures.items in
    pairs_are_residues c.args.p c.neg.result c.args.u.now c.args.v.now c.terms-2.result.now
    c.push_pairs.new.out.items (omega arith) is

pub invariant_of-self : goal.invariant_of-self
invariant_of-self c = words_descend c.add_all.new.self c.add_all.ensures.descending

pub returns-clause-difference : goal.returns-clause-difference
returns-clause-difference c =
    let is : listed c.push_pairs.new.out.items ≡ multiples_of c.args.p
    ((c.args.p - c.args.c) % c.args.p) c.args.u.now c.args.g.now c.args.v.now =
    c.in_ok-push_pairs.ensures.appended
    ∙ (ap (λ l. listed l ++ multiples_of c.args.p c.neg.result c.args.u.now c.terms-2.result.now
    c.args.v.now) c.in_ok-product.ensures.items
    ∙ ap₂ (λ n (g : Polynomial). multiples_of c.args.p n c.args.u.now g c.args.v.now)
    c.neg.ensures.value c.terms-2.ensures.terms) in
    on_ok_weaker c.add_all.result (λ s. heap_subtracted c.args.p c.args.c c.args.u.now c.args.v.now
    c.self.inside.sum c.add_all.new.self c.args.g.now (listed c.push_pairs.new.out.items)
    c.requires.factor (words_descend c.add_all.new.self c.add_all.ensures.descending)
    c.add_all.ensures.residues s is
    ∙ ap (λ (f : Polynomial). normal_form c.args.p
    (minus c.args.p f c.args.c (polynomial_times c.args.u.now c.args.g.now c.args.v.now)))
    c.self.view_is) c.add_all.ensures.sum
