use Rattle.nc_poly.specs.Ordered.{listed}
use Rattle.nc_poly.specs.Multiples.{multiples_of}
use Rattle.std.proofs.Common.{take, ◌++◌, ◌≡◌}
use Rattle.nc_poly.proofs.multiple.push_pairs.Given as goal

abbrev pub invariant-loop-t : goal.invariant-loop-t
invariant-loop-t l =
    listed l.out.items ≡ listed l.initial.out.items ++ multiples_of l.p l.c l.u (take l.t-index l.g)
    l.v
