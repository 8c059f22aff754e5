use Rattle.nc_algebra.specs.Monomials.{Sig as Value}
use Rattle.nc_queue.specs.Queues.{IsDifference, IsUnion}
use Rattle.std.specs.Arc.{arc_value}
use Rattle.std.proofs.Common.{subst, sym, ◌∙◌, take, Contains, List, map}
use Rattle.nc_queue.proofs.waiting.Waiting.insert_all.Goals as goal
use Rattle.nc_queue.proofs.Undoing.{first_ones, undone, union_fresh}

pub returns-in-Ok-clause-all : goal.returns-in-Ok-clause-all
returns-in-Ok-clause-all c =
    let more : List Value = map arc_value c.args.sigs.items in
    let old : List Value = map arc_value c.self.inside.kept.keys in
    let new : List Value = map arc_value c.insert_each.new.kept.keys in
    let fresh : IsDifference more old (map arc_value c.as_slice.result.now) =
    subst (λ xs. IsDifference more old (map arc_value xs)) (sym c.as_slice.ensures.value)
    c.without-fresh.ensures in
    subst (λ ss. IsUnion ss more new) c.self.view_is
    (union_fresh old more (map arc_value c.as_slice.result.now) new fresh c.in-Ok.ensures.all)

pub returns-clause-none : goal.returns-clause-none
returns-clause-none c =
    let more : List Value = map arc_value c.args.sigs.items in
    let old : List Value = map arc_value c.self.inside.kept.keys in
    let mid : List Value = map arc_value c.insert_each.new.kept.keys in
    let new : List Value = map arc_value c.remove_each.new.kept.keys in
    let fresh : List Value = map arc_value c.as_slice-in-Err.result.now in
    let some = c.insert_each.ensures.some in
    let difference : IsDifference more old fresh =
    subst (λ xs. IsDifference more old (map arc_value xs)) (sym c.as_slice-in-Err.ensures.value)
    c.without-fresh.ensures in
    let among : (σ : Value) → Contains (map arc_value (take some.0 c.as_slice.result.now)) σ
    → Contains fresh σ =
    λ σ h. subst (λ xs. Contains (map arc_value xs) σ)
    (c.as_slice.ensures.value ∙ sym c.as_slice-in-Err.ensures.value)
    (first_ones arc_value some.0 c.as_slice.result.now σ h) in
    undone old more fresh (map arc_value (take some.0 c.as_slice.result.now)) mid new
    c.self.invariant c.remove_each.ensures.ascending difference among some.1
    c.remove_each.ensures.rest ∙ c.self.view_is
