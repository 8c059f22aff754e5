use Rattle.nc_algebra.specs.Sums.{Term}
use Rattle.nc_poly.proofs.Passes.{All-push}
use Rattle.nc_poly.proofs.Tops.{first_term, pushed, topped_push}
use Rattle.nc_poly.specs.Ordered.{AllBelow}
use Rattle.nc_poly.specs.declared.sum.Slot.{Slot}
use Rattle.std.proofs.Common.{List, [], ap, arith, subst, sym, ◌++◌, ◌∙◌, ◌∷◌, ◌≡◌, ◌≤◌}
use Rattle.nc_poly.proofs.sum.Sum.push_greatest.Goals as goal

pub invariant_of-self-2 : goal.invariant_of-self-2
invariant_of-self-2 g c =
    let s : Slot = record { now = c.args.c; before = c.args.c; pass = c.self.inside.pass } in
    let old = c.self.inside.kept.entries in
    let is : c.insert.new.self.entries ≡ old ++ (c.args.key, s) ∷ [] =
    c.in_ok-insert.ensures.entries ∙ pushed g.met.K.Ord.total c.args.key s old
    c.self.invariant.0 c.insert.ensures.was_ordered
    (subst (AllBelow g.K.Ord.cmp c.args.key) (sym c.self.view_is) c.requires.greatest) in (
      topped_push old c.insert.new.self.entries c.args.key s is c.requires.some,
      All-push (λ e. e.1.pass ≤ c.self.inside.pass) c.insert.new.self.entries old (
        c.args.key,
        s,
      ) is c.self.invariant.1 (omega arith),
    )

pub returns-clause-pushed : goal.returns-clause-pushed
returns-clause-pushed g c =
    let s : Slot = record { now = c.args.c; before = c.args.c; pass = c.self.inside.pass } in
    let old = c.self.inside.kept.entries in
    let is : c.insert.new.self.entries ≡ old ++ (c.args.key, s) ∷ [] =
    c.in_ok-insert.ensures.entries ∙ pushed g.met.K.Ord.total c.args.key s old
    c.self.invariant.0 c.insert.ensures.was_ordered
    (subst (AllBelow g.K.Ord.cmp c.args.key) (sym c.self.view_is) c.requires.greatest) in
    first_term c.insert.new.self.entries old c.args.key s is c.requires.some
    ∙ ap (λ (l : List (Term _)). record { coefficient = c.args.c; key = c.args.key } ∷ l)
    c.self.view_is
