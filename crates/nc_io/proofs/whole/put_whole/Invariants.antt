use Rattle.std.proofs.Common.{◌-◌, ◌≤◌, length, take}
use Rattle.nc_io.specs.Adds.{Adds}
use Rattle.nc_io.proofs.whole.put_whole.Given as goal

abbrev pub invariant-turns : goal.invariant-turns
invariant-turns g l = record {
  added : Adds (g.K.Sink.written l.initial.sink) (g.K.Sink.written l.sink) (take l.at l.bytes);
  within : l.at ≤ length l.bytes;
  later : g.K.Sink.faults l.initial.sink ≤ g.K.Sink.faults l.sink;
}

abbrev pub decreases-turns : goal.decreases-turns
decreases-turns g l = length l.bytes - l.at
