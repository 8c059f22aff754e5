use Rattle.nc_theory.proofs.Ends.{next_exists}
use Rattle.nc_theory.proofs.run_laws.runs_go_on.Goals as goal

pub returns : goal.returns
returns c P prime n state last run = next_exists P state last
