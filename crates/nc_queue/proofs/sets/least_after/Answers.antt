use Rattle.nc_algebra.specs.Monomials.{compare_sigs}
use Rattle.nc_queue.proofs.Mapped.{map_filter, sorted_map}
use Rattle.std.specs.Arc.{arc_value}
use Rattle.std.proofs.Common.{ap, ◌∙◌, map}
use Rattle.nc_queue.proofs.sets.least_after.Goals as goal
use Rattle.nc_queue.proofs.Least.{is_after, least_after_first}

pub returns : goal.returns
returns c =
    least_after_first arc_value (map arc_value c.args.kept.now.keys) c.args.sig.now.value
    c.range.result c.next.new.self c.next.result
    (sorted_map arc_value compare_sigs c.args.kept.now.keys c.range.ensures.ordered)
    (ap (map arc_value) (c.range.ensures.between tt)
    ∙ map_filter arc_value (is_after c.args.sig.now.value) c.args.kept.now.keys)
    c.next.ensures.steps
