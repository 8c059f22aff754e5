use Rattle.nc_module.proofs.alphabet.+same_names.Given as goal
use Rattle.std.proofs.Common.{length}

abbrev pub decreases-same_names : goal.decreases-same_names
decreases-same_names l = length l.a.now
