use Rattle.nc_algebra.specs.Monomials.{Sig as Value, compare_sigs}
use Rattle.nc_queue.proofs.Ascending.{contains_others}
use Rattle.nc_queue.proofs.Mapped.{any_map, map_filter}
use Rattle.nc_queue.specs.Queues.{IsDifference}
use Rattle.nc_sig.proofs.Equality.{sigs_same}
use Rattle.nc_sig.specs.Orders.{sigs_order}
use Rattle.std.specs.Arc.{arc_value}
use Rattle.std.specs.List.{filter, list_any}
use Rattle.std.specs.Ordering.{is_eq}
use Rattle.std.proofs.lemmas.Fn.{filter_same}
use Rattle.std.proofs.Common.{rules, subst, sym, ap, ◌∙◌, not, map, ◌≡◌}
use Rattle.nc_queue.proofs.waiting.without.Goals as goal
use Rattle.std.proofs.lemmas.List.Elements.{filter_agree}

pub returns : goal.returns
returns c =
    let f : (σ : Value) → not (list_any (λ y. is_eq (compare_sigs σ y.value)) c.args.kept.now.keys)
    ≡ not (list_any (λ y. is_eq (compare_sigs σ y)) (map arc_value c.args.kept.now.keys)) =
    λ σ. ap not (any_map arc_value (λ y. is_eq (compare_sigs σ y)) c.args.kept.now.keys) in
    let e : c.retain.new.self.items
    ≡ filter (λ x. not (list_any (λ y. is_eq (compare_sigs x.value y.value))
    c.args.kept.now.keys)) c.args.sigs.items =
    filter_same _ (λ x. not (list_any (λ y. is_eq (compare_sigs x.value y.value))
    c.args.kept.now.keys)) _ (λ x b f h. search rules) _ _ c.retain.ensures.filtered in
    let d : map arc_value c.retain.new.self.items
    ≡ filter (λ σ. not (list_any (λ y. is_eq (compare_sigs σ y))
    (map arc_value c.args.kept.now.keys))) (map arc_value c.args.sigs.items) =
    ap (map arc_value) e ∙ (map_filter arc_value
    (λ σ. not (list_any (λ y. is_eq (compare_sigs σ y.value)) c.args.kept.now.keys))
    c.args.sigs.items ∙ filter_agree
    (λ σ. not (list_any (λ y. is_eq (compare_sigs σ y.value)) c.args.kept.now.keys))
    (λ σ. not (list_any (λ y. is_eq (compare_sigs σ y)) (map arc_value c.args.kept.now.keys)))
    f (map arc_value c.args.sigs.items)) in
    subst (λ xs. IsDifference (map arc_value c.args.sigs.items) (map arc_value c.args.kept.now.keys)
    xs) (sym d) (contains_others sigs_order sigs_same (map arc_value c.args.sigs.items)
    (map arc_value c.args.kept.now.keys))
