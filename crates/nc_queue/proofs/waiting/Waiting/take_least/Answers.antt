use Rattle.nc_algebra.specs.Monomials.{compare_sigs}
use Rattle.nc_queue.proofs.Mapped.{sorted_map}
use Rattle.std.specs.Arc.{arc_value}
use Rattle.nc_queue.proofs.waiting.Waiting.take_least.Goals as goal

pub invariant_of-self : goal.invariant_of-self
invariant_of-self c =
    sorted_map arc_value compare_sigs c.pop_first.new.self.keys c.pop_first.ensures.ordered
