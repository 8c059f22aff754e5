use Rattle.nc_queue.specs.Queues.{IsAscending, IsUnion}
use Rattle.std.specs.Arc.{arc_value}
use Rattle.std.proofs.Common.{take, map}
use Rattle.nc_queue.proofs.sets.insert_each.Given as goal

abbrev pub invariant-loop-sig : goal.invariant-loop-sig
invariant-loop-sig l = record {
  added : IsUnion (map arc_value l.initial.kept.keys) (map arc_value (take l.sig-index l.sigs))
      (map arc_value l.kept.keys);
  ascending : IsAscending (map arc_value l.kept.keys);
}
