use Rattle.std.proofs.Common.{◌≤◌, length, drop, take, arith}
use Rattle.std.proofs.Math.Seq.{take-add}
use Rattle.std.proofs.lemmas.List.{take_rest, length-drop}
use Rattle.nc_io.proofs.AddsLemmas.{Adds-trans}
use Rattle.nc_io.proofs.whole.put_whole.Goals as goal

pub turns-preserved : goal.turns-preserved
turns-preserved g c =
    let few : c.in_ok-at.field-0 ≤ length (drop c.turns.at c.args.bytes.now) =
    (rw take_rest at c.in_ok-at.ensures.some).1 in
    record {
      added =
          rw take-add
          (Adds-trans (g.K.Sink.written c.args.sink.now) (g.K.Sink.written c.turns.sink)
          (g.K.Sink.written c.put.new.self) (take c.turns.at c.args.bytes.now)
          (take c.in_ok-at.field-0 (drop c.turns.at c.args.bytes.now))
          c.turns.invariant.added (rw take_rest at c.in_ok-at.ensures.bytes));
      within = omega (arith, length-drop c.turns.at c.args.bytes.now);
      later = omega (arith, c.in_ok-at.ensures.cause.later);
    }
