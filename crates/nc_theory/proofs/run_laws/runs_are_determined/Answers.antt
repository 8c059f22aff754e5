use Rattle.nc_algebra.proofs.Primes.{field_from_prime}
use Rattle.nc_theory.proofs.Completeness.{invariant}
use Rattle.nc_theory.proofs.Determinism.{handles_unique, run_unique}
use Rattle.nc_theory.proofs.run_laws.runs_are_determined.Goals as goal

pub returns : goal.returns
returns c P prime n state state' last last' run run' = (
  (run_unique P (field_from_prime P.setting.prime prime) run run').0,
  (run_unique P (field_from_prime P.setting.prime prime) run run').1,
  λ τ o o' h h'. handles_unique P.setting (field_from_prime P.setting.prime prime) state
      (invariant P (field_from_prime P.setting.prime prime) run).sound.nonzero τ h h',
)
