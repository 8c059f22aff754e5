use Rattle.std.proofs.Common.{◌∙◌}
use Rattle.std.proofs.lemmas.Bool.{false≢true}
use Rattle.std.specs.Arc.{arc_value}
use Rattle.nc_chunks.proofs.Chunking.{chunked-push}
use Rattle.nc_chunks.proofs.chunks.make_room.Goals as goal

pub returns-clause-chunked : goal.returns-clause-chunked
returns-clause-chunked g c =
    let empty = c.in_ok-chunk.ensures.ok ∙ c.in_ok-empty.ensures in
    rw c.in_ok-push.ensures.items (chunked-push arc_value c.args.chunks.now.items
    c.in_ok-chunk.chunk c.requires
    (λ r. false≢true (c.if-has_room.ensures.1 (rw c.as_slice.ensures.value r))) empty)
