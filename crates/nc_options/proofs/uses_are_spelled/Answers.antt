use Rattle.nc_options.proofs.Spellings.{uses_are_spelled}
use Rattle.nc_options.proofs.uses_are_spelled.Goals as goal

pub returns : goal.returns
returns c = uses_are_spelled
