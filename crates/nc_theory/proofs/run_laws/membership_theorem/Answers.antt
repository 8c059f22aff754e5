use Rattle.nc_algebra.proofs.Primes.{field_from_prime}
use Rattle.nc_algebra.specs.Elements.{Element, IsIn, evaluation}
use Rattle.nc_algebra.specs.Polynomials.{Polynomial, coefficient}
use Rattle.nc_algebra.specs.Primes.{IsField}
use Rattle.nc_algebra.specs.Problems.{IsWithin, Problem}
use Rattle.nc_algebra.specs.Words.{Word}
use Rattle.nc_theory.proofs.Completeness.{enough_at_end, invariant, within_down}
use Rattle.nc_theory.proofs.Membership.{none_kept, representation}
use Rattle.nc_theory.specs.Bases.{HasRepresentation}
use Rattle.nc_theory.specs.Reductions.{Reduction}
use Rattle.nc_theory.specs.Runs.{End, IsEnd}
use Rattle.nc_theory.specs.States.{State, Step}
use Rattle.nc_theory.proofs.run_laws.membership_theorem.Goals as goal
use Rattle.std.proofs.Common.{ℕ, ◌≡◌, [], List, ◌%◌, ap, sym, ◌∙◌, arith, ◌+◌}

forth : (P : Problem) → IsField P.setting.prime → {n : ℕ} {state : State}
    → IsEnd P n state End.complete → {f rest : Polynomial} {steps : List Step}
    → Reduction P.setting state.entries (IsWithin P) f rest steps → rest ≡ []
    → HasRepresentation P.setting (IsWithin P) f
forth P field {state = state} (IsEnd.is_complete l run none) {f} {rest} reduction e =
    go (representation P.setting field state (invariant P field run).sound (IsWithin P)
    (within_down P) reduction)
  where
    go : (α : Element) × IsIn P.setting α (IsWithin P)
        × ((y : Word) → coefficient f y % P.setting.prime
        ≡ (coefficient (evaluation P.setting α) y + coefficient rest y) % P.setting.prime)
        → HasRepresentation P.setting (IsWithin P) f
    go (α, lies, value) = (
      α,
      lies,
      record {
        at = λ y. sym (value y
            ∙ ap (λ n. n % P.setting.prime)
            (ap (λ g. coefficient (evaluation P.setting α) y + coefficient g y) e ∙ omega arith));
      },
    )

back : (P : Problem) → IsField P.setting.prime → {n : ℕ} {state : State}
    → IsEnd P n state End.complete → {f rest : Polynomial} {steps : List Step}
    → Reduction P.setting state.entries (IsWithin P) f rest steps
    → HasRepresentation P.setting (IsWithin P) f → rest ≡ []
back P field {state = state} (IsEnd.is_complete l run none) reduction has =
    none_kept P.setting field state (invariant P field run).sound (IsWithin P) (within_down P)
    (enough_at_end P field run none).0 reduction has

pub returns : goal.returns
returns c P prime n state end f rest steps reduction = (
  forth P (field_from_prime P.setting.prime prime) end reduction,
  back P (field_from_prime P.setting.prime prime) end reduction,
)
