use Rattle.nc_algebra.proofs.Primes.{field_from_prime}
use Rattle.nc_theory.proofs.Uniqueness.{entry_canonical, entry_unique}
use Rattle.nc_theory.proofs.run_laws.uniqueness_theorem.Goals as goal

pub returns : goal.returns
returns c P prime n state last run e k = (
  entry_canonical P (field_from_prime P.setting.prime prime) run e k,
  entry_unique P (field_from_prime P.setting.prime prime) run e k,
)
