use Rattle.nc_algebra.proofs.Primes.{field_from_prime}
use Rattle.nc_algebra.specs.Monomials.{Monomial}
use Rattle.nc_algebra.specs.Primes.{IsPrime}
use Rattle.nc_algebra.specs.Problems.{IsWithin, IsWithinBelow, Problem}
use Rattle.nc_theory.proofs.Completeness.{enough_at_end, enough_below_next}
use Rattle.nc_theory.specs.Bases.{IsBasisBelow, IsSyzygyBasisBelow}
use Rattle.nc_theory.specs.Runs.{End, IsEnd}
use Rattle.nc_theory.specs.States.{State}
use Rattle.nc_theory.proofs.run_laws.completeness_theorem.Goals as goal
use Rattle.std.proofs.Common.{ℕ}

complete : (P : Problem) → IsPrime P.setting.prime → {n : ℕ} {state : State}
    → IsEnd P n state End.complete → IsBasisBelow P.setting state (IsWithin P)
    × IsSyzygyBasisBelow P.setting state (IsWithin P)
complete P prime (IsEnd.is_complete l run none) =
    enough_at_end P (field_from_prime P.setting.prime prime) run none

budget : (P : Problem) → IsPrime P.setting.prime → {n : ℕ} {state : State} {τ : Monomial}
    → IsEnd P n state (End.budget τ) → IsBasisBelow P.setting state (IsWithinBelow P τ)
    × IsSyzygyBasisBelow P.setting state (IsWithinBelow P τ)
budget P prime (IsEnd.is_budget e run τ next) =
    enough_below_next P (field_from_prime P.setting.prime prime) run τ next

pub returns : goal.returns
returns c P prime n state = (complete P prime, λ τ e. budget P prime e)
