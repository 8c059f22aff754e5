use Rattle.nc_module.proofs.setting.+same_polynomials.Given as goal
use Rattle.std.proofs.Common.{length}

abbrev pub decreases-same_polynomials : goal.decreases-same_polynomials
decreases-same_polynomials l = length l.a.now
