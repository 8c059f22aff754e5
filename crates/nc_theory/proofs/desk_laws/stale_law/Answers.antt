use Rattle.nc_algebra.proofs.Primes.{field_from_prime}
use Rattle.nc_theory.proofs.Extensions.{stale_or_fresh}
use Rattle.nc_theory.proofs.desk_laws.stale_law.Goals as goal

pub returns : goal.returns
returns c P prime k n state later before last run run' l τ o h =
    stale_or_fresh P (field_from_prime P.setting.prime prime) run run' l τ o h
