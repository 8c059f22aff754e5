use Rattle.nc_cofactor.proofs.Letters.{cofactors_over}
use Rattle.nc_cofactor.proofs.alphabet.cofactors_are_over.Goals as goal

pub returns : goal.returns
returns c = cofactors_over
