use Rattle.nc_poly.specs.Multiples.{multiples_of}
use Rattle.std.proofs.Common.{take, ◌++◌, ◌≡◌}
use Rattle.nc_poly.proofs.multiple.push_multiple.Given as goal

abbrev pub invariant-loop-t : goal.invariant-loop-t
invariant-loop-t l =
    l.out.items ≡ l.initial.out.items ++ multiples_of l.p l.c l.u (take l.t-index l.g) l.v
