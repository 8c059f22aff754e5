use Rattle.nc_algebra.specs.Monomials.{Sig as Value}
use Rattle.nc_queue.specs.Queues.{IsAscending, IsUnitTo}
use Rattle.std.specs.Arc.{arc_value}
use Rattle.std.proofs.Common.{Contains, map, ◌↔◌}
use Rattle.nc_queue.proofs.waiting.Waiting.of.Given as goal

abbrev pub invariant-loop-index : goal.invariant-loop-index
invariant-loop-index l =
    record {
      units : (σ : Value) → Contains (map arc_value l.kept.keys) σ
          ↔ IsUnitTo l.problem.problem l.index σ;
      ascending : IsAscending (map arc_value l.kept.keys);
    }
