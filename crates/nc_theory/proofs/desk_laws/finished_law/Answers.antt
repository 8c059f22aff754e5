use Rattle.nc_algebra.proofs.Primes.{field_from_prime}
use Rattle.nc_theory.proofs.Desk.{finished}
use Rattle.nc_theory.proofs.desk_laws.finished_law.Goals as goal

pub returns : goal.returns
returns c P prime d run l = finished P (field_from_prime P.setting.prime prime) d run l
