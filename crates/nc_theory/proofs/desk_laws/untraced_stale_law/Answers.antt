use Rattle.nc_algebra.proofs.Primes.{field_from_prime}
use Rattle.nc_theory.proofs.Extensions.{untraced_stale}
use Rattle.nc_theory.proofs.desk_laws.untraced_stale_law.Goals as goal

pub returns : goal.returns
returns c P prime k n state later run run' l τ o h =
    untraced_stale P (field_from_prime P.setting.prime prime) run run' l τ o h
