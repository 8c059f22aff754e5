use Rattle.nc_options.proofs.Ranges.{ranges}
use Rattle.nc_options.proofs.options_are_in_range.Goals as goal

pub returns : goal.returns
returns c = ranges
