use Rattle.nc_module.specs.Modules.{module_multiples}
use Rattle.nc_poly.specs.Ordered.{listed}
use Rattle.std.proofs.Common.{take, ◌≡◌}
use Rattle.nc_cofactor.proofs.sum.multiples.Given as goal

abbrev pub invariant-loop-t : goal.invariant-loop-t
invariant-loop-t l = listed l.pairs.items ≡ module_multiples l.p l.c l.u (take l.t-index l.m) l.v
