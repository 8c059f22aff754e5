use Rattle.nc_algebra.proofs.Primes.{field_from_prime}
use Rattle.nc_theory.proofs.Events.{plays_exist}
use Rattle.nc_theory.proofs.desk_laws.plays_exist.Goals as goal

pub returns : goal.returns
returns c P prime capacity events =
    plays_exist P (field_from_prime P.problem.setting.prime prime) capacity events
