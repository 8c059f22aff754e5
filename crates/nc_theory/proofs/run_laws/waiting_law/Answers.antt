use Rattle.nc_algebra.proofs.Primes.{field_from_prime}
use Rattle.nc_theory.proofs.Ascent.{waiting}
use Rattle.nc_theory.proofs.run_laws.waiting_law.Goals as goal

pub returns : goal.returns
returns c P prime n state last run τ next o h =
    waiting P (field_from_prime P.setting.prime prime) run τ next h
