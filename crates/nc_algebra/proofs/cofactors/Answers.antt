use Rattle.nc_algebra.proofs.LineElements.{cofactors}
use Rattle.nc_algebra.proofs.cofactors.Goals as goal

pub returns : goal.returns
returns c = cofactors
