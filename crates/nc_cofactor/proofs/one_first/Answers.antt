use Rattle.nc_cofactor.proofs.Existence.{one_first}
use Rattle.nc_cofactor.proofs.one_first.Goals as goal

pub returns : goal.returns
returns c = one_first
