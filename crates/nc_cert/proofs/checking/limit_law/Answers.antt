use Rattle.nc_cert.proofs.Limits.{limit_law}
use Rattle.nc_cert.proofs.checking.limit_law.Goals as goal

pub returns : goal.returns
returns c = limit_law
