use Rattle.nc_queue.specs.Queues.{IsAscending, IsDifference}
use Rattle.std.specs.Arc.{arc_value}
use Rattle.std.proofs.Common.{take, map}
use Rattle.nc_queue.proofs.sets.remove_each.Given as goal

abbrev pub invariant-loop-sig : goal.invariant-loop-sig
invariant-loop-sig l = record {
  rest : IsDifference (map arc_value l.initial.kept.keys) (map arc_value (take l.sig-index l.sigs))
      (map arc_value l.kept.keys);
  ascending : IsAscending (map arc_value l.kept.keys);
}
