use Rattle.nc_algebra.specs.Monomials.{compare_sigs}
use Rattle.nc_queue.proofs.Ascending.{without_one}
use Rattle.nc_queue.proofs.Mapped.{any_map, sorted_map}
use Rattle.nc_sig.proofs.Equality.{sigs_same}
use Rattle.nc_sig.specs.Orders.{sigs_order}
use Rattle.std.specs.Arc.{arc_value, arc_with_value}
use Rattle.std.specs.Ordering.{is_eq}
use Rattle.std.proofs.Common.{sym, ap, ◌∙◌, cond, map, false}
use Rattle.nc_queue.proofs.sets.remove_one.Goals as goal

pub returns-clause-rest : goal.returns-clause-rest
returns-clause-rest c =
    λ τ. without_one sigs_order sigs_same c.args.sig.now.value τ
    (map arc_value c.args.kept.now.keys) (map arc_value c.remove.new.self.keys)
    (sym (any_map arc_value (λ y. is_eq (compare_sigs τ y)) c.remove.new.self.keys)
    ∙ (c.remove.ensures.updates.0 (arc_with_value c.args.sig.now τ)
    ∙ ap (cond (is_eq (compare_sigs c.args.sig.now.value τ)) false)
    (any_map arc_value (λ y. is_eq (compare_sigs τ y)) c.args.kept.now.keys)))

pub returns-clause-ascending : goal.returns-clause-ascending
returns-clause-ascending c =
    sorted_map arc_value compare_sigs c.remove.new.self.keys c.remove.ensures.ordered
