use Rattle.nc_module.specs.Modules.{module_multiples}
use Rattle.nc_poly.specs.Ordered.{listed}
use Rattle.std.proofs.Common.{take, ◌++◌, ◌≡◌}
use Rattle.nc_module.proofs.module.push_multiples.Given as goal

abbrev pub invariant-loop-t : goal.invariant-loop-t
invariant-loop-t l =
    listed l.out.items ≡ listed l.initial.out.items ++ module_multiples l.p l.c l.u
    (take l.t-index l.m) l.v
