use Rattle.nc_algebra.proofs.Primes.{field_from_prime}
use Rattle.nc_algebra.proofs.Sums.{linear_sum-append}
use Rattle.nc_algebra.specs.Elements.{IsIn, SamePolynomial, evaluation}
use Rattle.nc_algebra.specs.Monomials.{Monomial}
use Rattle.nc_algebra.specs.Polynomials.{Polynomial, coefficient}
use Rattle.nc_algebra.specs.Primes.{IsField}
use Rattle.nc_algebra.specs.Problems.{IsWithin, Problem}
use Rattle.nc_algebra.specs.Sums.{is_at}
use Rattle.nc_algebra.specs.Words.{Word, same_word}
use Rattle.nc_theory.proofs.Completeness.{invariant, within_down}
use Rattle.nc_theory.proofs.Membership.{represents}
use Rattle.nc_theory.proofs.Traces.{labels_hold}
use Rattle.nc_theory.specs.Labels.{labels_of, step_multiples}
use Rattle.nc_theory.specs.Reductions.{Reduction}
use Rattle.nc_theory.specs.Runs.{SequentialRun}
use Rattle.nc_theory.specs.States.{State, Step}
use Rattle.std.proofs.Common.{List, Option, ap, sym, ℕ, ◌%◌, ◌++◌, ◌+◌, ◌∙◌, ◌≡◌}
use Rattle.nc_theory.proofs.run_laws.representation_law.Goals as goal

both : (P : Problem) → IsField P.setting.prime → {n : ℕ} {state : State} {last : Option Monomial}
    → SequentialRun P n state last → {f rest : Polynomial} {steps : List Step}
    → Reduction P.setting state.entries (IsWithin P) f rest steps
    → IsIn P.setting (step_multiples (labels_of P.setting.prime state.entries) steps) (IsWithin P)
    × SamePolynomial P.setting (evaluation P.setting
    (step_multiples (labels_of P.setting.prime state.entries) steps) ++ rest) f
both P field {state = state} run {f} {rest} {steps} r = (
  t.0,
  record {
    at = λ y. ap (λ m. m % P.setting.prime)
        (linear_sum-append (is_at same_word y)
        (evaluation P.setting (step_multiples (labels_of P.setting.prime state.entries) steps))
        rest) ∙ sym (t.1 y);
  },
)
  where
    t : IsIn P.setting (step_multiples (labels_of P.setting.prime state.entries) steps) (IsWithin P)
        × ((y : Word) → coefficient f y % P.setting.prime
        ≡ (coefficient (evaluation P.setting
        (step_multiples (labels_of P.setting.prime state.entries) steps)) y + coefficient rest
        y) % P.setting.prime)
    t = represents P.setting field state (invariant P field run).sound (IsWithin P) (within_down P)
        (labels_of P.setting.prime state.entries) (labels_hold P field run).entries r

pub returns : goal.returns
returns c P prime n state last run f rest steps r =
    both P (field_from_prime P.setting.prime prime) run r
