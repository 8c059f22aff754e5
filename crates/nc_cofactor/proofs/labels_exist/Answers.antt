use Rattle.nc_cofactor.proofs.Existence.{labels_exist}
use Rattle.nc_cofactor.proofs.labels_exist.Goals as goal

pub returns : goal.returns
returns c = labels_exist
