use Rattle.nc_algebra.specs.Monomials.{compare_sigs}
use Rattle.nc_queue.proofs.Ascending.{with_one}
use Rattle.nc_queue.proofs.Mapped.{any_map, sorted_map}
use Rattle.nc_sig.proofs.Equality.{sigs_same}
use Rattle.nc_sig.specs.Orders.{sigs_order}
use Rattle.std.specs.Arc.{arc_value, arc_with_value}
use Rattle.std.specs.Ordering.{is_eq}
use Rattle.std.proofs.Common.{sym, ap, ◌∙◌, cond, map, true}
use Rattle.nc_queue.proofs.sets.insert_one.Goals as goal

pub returns-clause-added : goal.returns-clause-added
returns-clause-added c =
    λ τ. with_one sigs_order sigs_same c.args.sig.value τ (map arc_value c.args.kept.now.keys)
    (map arc_value c.insert.new.self.keys)
    (sym (any_map arc_value (λ y. is_eq (compare_sigs τ y)) c.insert.new.self.keys)
    ∙ (c.in_ok-insert.ensures.updates.0 (arc_with_value c.args.sig τ)
    ∙ ap (cond (is_eq (compare_sigs c.args.sig.value τ)) true)
    (any_map arc_value (λ y. is_eq (compare_sigs τ y)) c.args.kept.now.keys)))

pub returns-clause-ascending : goal.returns-clause-ascending
returns-clause-ascending c =
    sorted_map arc_value compare_sigs c.insert.new.self.keys c.insert.ensures.ordered

pub returns-in_err-insert-clause-ascending : goal.returns-in_err-insert-clause-ascending
returns-in_err-insert-clause-ascending c =
    sorted_map arc_value compare_sigs c.insert.new.self.keys c.insert.ensures.ordered
