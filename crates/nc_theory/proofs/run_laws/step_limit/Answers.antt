use Rattle.nc_algebra.proofs.Primes.{field_from_prime}
use Rattle.nc_theory.proofs.Steps.{enough_steps, steps_limited}
use Rattle.nc_theory.proofs.run_laws.step_limit.Goals as goal

pub returns : goal.returns
returns c P prime letters inputs = (
  λ n state last run. steps_limited P (field_from_prime P.setting.prime prime) letters inputs
      run,
  λ l n state end e. enough_steps P (field_from_prime P.setting.prime prime) letters inputs
      l e,
)
