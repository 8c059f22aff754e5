use Rattle.nc_algebra.proofs.Primes.{field_from_prime}
use Rattle.nc_theory.proofs.Ends.{end_exists, end_unique}
use Rattle.nc_theory.proofs.run_laws.one_end.Goals as goal

pub returns : goal.returns
returns c P prime = (
  end_exists P (field_from_prime P.setting.prime prime),
  λ n m state later end end' e e'. end_unique P (field_from_prime P.setting.prime prime) e e',
)
