use Rattle.nc_theory.proofs.Counting.{counts}
use Rattle.nc_theory.proofs.run_laws.count_law.Goals as goal

pub returns : goal.returns
returns c P n state last run = counts P run
