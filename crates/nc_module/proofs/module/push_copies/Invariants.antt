use Rattle.nc_poly.specs.Ordered.{listed}
use Rattle.std.proofs.Common.{take, ◌++◌, ◌≡◌}
use Rattle.nc_module.proofs.module.push_copies.Given as goal

abbrev pub invariant-loop-t : goal.invariant-loop-t
invariant-loop-t l = listed l.out.items ≡ listed l.initial.out.items ++ take l.t-index l.terms
