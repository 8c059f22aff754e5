use Rattle.nc_poly.specs.Multiples.{shifted_of}
use Rattle.std.proofs.Common.{map, take, ◌++◌, ◌≡◌}
use Rattle.nc_poly.proofs.multiple.push_shifted.Given as goal

abbrev pub invariant-loop-t : goal.invariant-loop-t
invariant-loop-t l =
    l.out.items ≡ l.initial.out.items ++ map (shifted_of l.u l.v) (take l.t-index l.g)
