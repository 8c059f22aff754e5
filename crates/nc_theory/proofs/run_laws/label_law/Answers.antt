use Rattle.nc_algebra.proofs.Primes.{field_from_prime}
use Rattle.nc_theory.proofs.Traces.{labels_hold}
use Rattle.nc_theory.proofs.run_laws.label_law.Goals as goal

pub returns : goal.returns
returns c P prime n state last run = (
  (labels_hold P (field_from_prime P.setting.prime prime) run).entries,
  (labels_hold P (field_from_prime P.setting.prime prime) run).syzygies,
)
