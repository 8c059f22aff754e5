use Rattle.nc_algebra.proofs.Primes.{field_from_prime}
use Rattle.nc_algebra.specs.Primes.{IsField}
use Rattle.nc_algebra.specs.Problems.{IsUnder, IsWithinBound}
use Rattle.nc_theory.proofs.Closure.{basis_below, syzygies_below}
use Rattle.nc_theory.proofs.Completeness.{bound_down, under_down}
use Rattle.nc_theory.proofs.run_laws.closure_theorem.Goals as goal

pub returns : goal.returns
returns c s prime state sound = (
  (λ b closed. (
    basis_below s field state sound (IsWithinBound s b) (bound_down s b) (λ σ w. w.0)
        closed,
    syzygies_below s field state sound (IsWithinBound s b) (bound_down s b)
        (λ σ w. w.0) closed,
  )),
  (λ β closed. (
    basis_below s field state sound (IsUnder s β) (under_down s β) (λ σ w. w.0) closed,
    syzygies_below s field state sound (IsUnder s β) (under_down s β) (λ σ w. w.0) closed,
  )),
)
  where
    field : IsField s.prime
    field = field_from_prime s.prime prime
