use Rattle.nc_criteria.proofs.Best.{best_of_all}
use Rattle.nc_criteria.proofs.multiple.best_multiple_law.Goals as goal

pub returns : goal.returns
returns c = best_of_all
