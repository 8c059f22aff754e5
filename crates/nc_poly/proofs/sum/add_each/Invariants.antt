use Rattle.nc_poly.proofs.Passes.{AddsSlots}
use Rattle.std.proofs.Common.{vec_len}
use Rattle.nc_poly.proofs.sum.add_each.Given as goal

abbrev pub invariant-loop-key : goal.invariant-loop-key
invariant-loop-key g l =
    AddsSlots g.K.Ord.cmp l.p l.pass l.initial.map.entries l.map.entries l.initial.left.items
    l.left.items

abbrev pub decreases-loop-key : goal.decreases-loop-key
decreases-loop-key g l = vec_len l.left
