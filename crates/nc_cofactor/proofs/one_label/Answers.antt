use Rattle.nc_cofactor.proofs.Once.{one_label}
use Rattle.nc_cofactor.proofs.one_label.Goals as goal

pub returns : goal.returns
returns c = one_label
