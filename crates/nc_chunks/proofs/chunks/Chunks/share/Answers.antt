use Rattle.std.proofs.Common.{◌∙◌, ap, sym, length, map}
use Rattle.std.specs.Arc.{arc_value}
use Rattle.nc_chunks.proofs.Chunking.{same_chunks}
use Rattle.nc_chunks.proofs.chunks.Chunks.share.Goals as goal

pub invariant_of-result : goal.invariant_of-result
invariant_of-result g c =
    let same =
    same_chunks arc_value c.self.inside.chunks.items c.in_ok-chunks.chunks.items
    (c.in_ok-chunks.ensures ∙ ap (map arc_value) c.as_slice.ensures.value) in
    (same.chunked c.self.invariant.0, c.self.invariant.1 ∙ ap length (sym same.items))

pub returns : goal.returns
returns g c =
    let same =
    same_chunks arc_value c.self.inside.chunks.items c.in_ok-chunks.chunks.items
    (c.in_ok-chunks.ensures ∙ ap (map arc_value) c.as_slice.ensures.value) in
    same.items ∙ c.self.view_is
