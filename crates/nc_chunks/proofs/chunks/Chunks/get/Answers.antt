use Rattle.std.proofs.Common.{arith, length, ◌<◌, ◌/◌}
use Rattle.std.specs.Arc.{arc_value}
use Rattle.std.specs.List.{flat_map}
use Rattle.nc_chunks.proofs.Chunking.{found, stands_there}
use Rattle.nc_chunks.proofs.chunks.Chunks.get.Goals as goal

pub index-requires : goal.index-requires
index-requires g c =
    let within : c.args.index < length (flat_map arc_value c.self.inside.chunks.items) =
    rw c.self.view_is c.requires in
    let chunk : c.args.index / 256 < length c.self.inside.chunks.items =
    (stands_there arc_value c.self.inside.chunks.items c.args.index c.self.invariant.0 within).chunk
    in
    omega arith

pub get-requires : goal.get-requires
get-requires g c =
    let within : c.args.index < length (flat_map arc_value c.self.inside.chunks.items) =
    rw c.self.view_is c.requires in
    let there =
    stands_there arc_value c.self.inside.chunks.items c.args.index c.self.invariant.0 within in
    rw (c.deref.ensures, c.index.ensures) (there.item c.index.result.now)

pub returns : goal.returns
returns g c =
    let within : c.args.index < length (flat_map arc_value c.self.inside.chunks.items) =
    rw c.self.view_is c.requires in
    let here =
    found arc_value c.self.inside.chunks.items c.args.index c.index.result.now c.get.result.now
    c.self.invariant.0 within in
    cc
