use Rattle.nc_algebra.proofs.Primes.{field_from_prime}
use Rattle.nc_theory.proofs.Completeness.{invariant}
use Rattle.nc_theory.proofs.run_laws.runs_are_sound.Goals as goal

pub returns : goal.returns
returns c P prime n state last run =
    (invariant P (field_from_prime P.setting.prime prime) run).sound
