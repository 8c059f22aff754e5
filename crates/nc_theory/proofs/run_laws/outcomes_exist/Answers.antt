use Rattle.nc_algebra.proofs.Primes.{field_from_prime}
use Rattle.nc_theory.proofs.Completeness.{invariant}
use Rattle.nc_theory.proofs.Ends.{handles_exists}
use Rattle.nc_theory.proofs.Ends.{source}
use Rattle.nc_theory.proofs.run_laws.outcomes_exist.Goals as goal

pub returns : goal.returns
returns c P prime n state last run τ k =
    handles_exists P.setting (field_from_prime P.setting.prime prime) state
    (invariant P (field_from_prime P.setting.prime prime) run).sound.nonzero τ
    (source P (field_from_prime P.setting.prime prime) state τ k)
