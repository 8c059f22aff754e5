use Rattle.nc_poly.specs.Ordered.{listed}
use Rattle.std.proofs.Common.{◌≡◌}
use Rattle.nc_module.proofs.module.into_pairs.Given as goal

abbrev pub invariant-loop-term : goal.invariant-loop-term
invariant-loop-term l = listed l.pairs.items ≡ l.yielded
