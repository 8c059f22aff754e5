use Rattle.nc_theory.proofs.Named.{complete}
use Rattle.nc_theory.proofs.untraced_laws.enough_steps.Goals as goal

pub returns : goal.returns
returns c P is prime h n state ending e = complete P is prime h n state ending e
