use Rattle.std.proofs.Common.{take, ◌++◌, ◌≡◌}
use Rattle.nc_poly.proofs.poly.push_copies.Given as goal

abbrev pub invariant-loop-t : goal.invariant-loop-t
invariant-loop-t l = l.out.items ≡ l.initial.out.items ++ take l.t-index l.terms
