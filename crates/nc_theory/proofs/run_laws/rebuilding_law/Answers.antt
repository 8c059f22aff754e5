use Rattle.nc_algebra.proofs.Primes.{field_from_prime}
use Rattle.nc_theory.proofs.Completeness.{invariant}
use Rattle.nc_theory.proofs.Rebuilding.{rebuilds_once, rebuilt}
use Rattle.nc_theory.proofs.run_laws.rebuilding_law.Goals as goal

pub returns : goal.returns
returns c P prime n state last run = (
  (rebuilt P (field_from_prime P.setting.prime prime) run).entries,
  (rebuilt P (field_from_prime P.setting.prime prime) run).syzygies,
  rebuilds_once P.setting (field_from_prime P.setting.prime prime) state.entries
      (invariant P (field_from_prime P.setting.prime prime) run).sound.nonzero,
)
