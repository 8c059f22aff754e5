use Rattle.nc_theory.proofs.Plays.{plays_unique}
use Rattle.nc_theory.proofs.desk_laws.plays_are_determined.Goals as goal

pub returns : goal.returns
returns c P events d a b p q = plays_unique P p q
