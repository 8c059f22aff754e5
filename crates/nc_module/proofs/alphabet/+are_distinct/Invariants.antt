use Rattle.std.proofs.Common.{length}
use Rattle.nc_module.proofs.alphabet.+are_distinct.Given as goal

-- proposed from what the function passes where it calls itself
abbrev pub decreases-are_distinct : goal.decreases-are_distinct
decreases-are_distinct l = length l.names.now
