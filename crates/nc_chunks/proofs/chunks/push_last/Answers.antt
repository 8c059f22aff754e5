use Rattle.std.proofs.Common.{◌-◌, arith}
use Rattle.std.specs.Arc.{arc_value}
use Rattle.nc_chunks.proofs.Chunking.{push_last}
use Rattle.nc_chunks.proofs.chunks.push_last.Goals as goal

pub returns : goal.returns
returns g c =
    let it =
    push_last arc_value c.args.chunks.now.items (c.len-last.result - 1) c.index_mut.result.now
    c.push_own.new.chunk c.args.item c.push_own.result c.requires.chunked c.requires.room
    (omega (arith, c.requires.room.some)) c.index_mut.ensures.value c.push_own.ensures.added
    c.push_own.ensures.kept in
    record {
      chunked = it.chunked;
      added = it.added;
      kept = it.kept;
      value_returned = c.push_own.ensures.value_returned;
    }
