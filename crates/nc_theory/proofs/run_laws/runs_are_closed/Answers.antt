use Rattle.nc_algebra.proofs.Primes.{field_from_prime}
use Rattle.nc_algebra.specs.Primes.{IsField}
use Rattle.nc_theory.proofs.Completeness.{closed_at_end, closed_below_next, enough_at_end, enough_below_next}
use Rattle.nc_theory.proofs.run_laws.runs_are_closed.Goals as goal

pub returns : goal.returns
returns c P prime n state last run = (
  λ τ next. (
    closed_below_next P field run τ next,
    (enough_below_next P field run τ next).0,
    (enough_below_next P field run τ next).1,
  ),
  λ none. (
    closed_at_end P field run none,
    (enough_at_end P field run none).0,
    (enough_at_end P field run none).1,
  ),
)
  where
    field : IsField P.setting.prime
    field = field_from_prime P.setting.prime prime
