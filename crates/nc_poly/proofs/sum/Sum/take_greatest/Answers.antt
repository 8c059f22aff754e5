use Rattle.nc_poly.proofs.Passes.{All-front}
use Rattle.nc_algebra.specs.Sums.{Term}
use Rattle.nc_poly.proofs.Tops.{taken}
use Rattle.std.proofs.Common.{List, [], ap, sym, ◌∙◌, ◌∷◌, ◌≤◌}
use Rattle.nc_poly.proofs.sum.Sum.take_greatest.Goals as goal

pub invariant_of-self : goal.invariant_of-self
invariant_of-self g c = (
  c.drop_zeros.ensures.topped,
  c.drop_zeros.ensures.stamps c.self.inside.pass
      (All-front (λ e. e.1.pass ≤ c.self.inside.pass) c.self.inside.kept.entries
      c.pop_last.new.self.entries ((c.in-Some.key, c.in-Some.slot) ∷ []) c.in-Some.ensures.removal
      c.self.invariant.1),
)

pub returns-in-Some-clause-none : goal.returns-in-Some-clause-none
returns-in-Some-clause-none g c =
    let top =
    taken c.self.inside.kept.entries c.pop_last.new.self.entries c.in-Some.key c.in-Some.slot
    c.self.invariant.0 c.in-Some.ensures.removal in
    ((λ e. cc), (λ e. let h = sym e ∙ (sym c.self.view_is ∙ top) in cc))

pub returns-in-Some-clause-some : goal.returns-in-Some-clause-some
returns-in-Some-clause-some g c =
    let top =
    taken c.self.inside.kept.entries c.pop_last.new.self.entries c.in-Some.key c.in-Some.slot
    c.self.invariant.0 c.in-Some.ensures.removal in
    sym c.self.view_is ∙ (top ∙ ap (λ (l : List (Term _)). record
    { coefficient = c.in-Some.slot.now; key = c.in-Some.key } ∷ l)
    (sym c.drop_zeros.ensures.terms))
