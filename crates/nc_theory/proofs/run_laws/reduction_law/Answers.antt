use Rattle.nc_algebra.proofs.Elements.{generator_dec}
use Rattle.nc_algebra.proofs.Orders.{Decided}
use Rattle.nc_algebra.proofs.Primes.{field_from_prime}
use Rattle.nc_algebra.specs.Elements.{IsGenerator, IsLess}
use Rattle.nc_algebra.specs.Monomials.{Monomial}
use Rattle.nc_algebra.specs.Primes.{IsField}
use Rattle.nc_algebra.specs.Problems.{IsInBound, IsWithin, Problem}
use Rattle.nc_algebra.specs.Words.{Word}
use Rattle.nc_theory.proofs.Completeness.{invariant}
use Rattle.nc_theory.proofs.Decisions.{less_dec}
use Rattle.nc_theory.proofs.Determinism.{chosen_same, parts_same, reduction_unique}
use Rattle.nc_theory.proofs.Ends.{bound_dec}
use Rattle.nc_theory.proofs.Existence.{choose, reduce_exists}
use Rattle.nc_theory.proofs.Normal.{kept_normal}
use Rattle.nc_theory.specs.Divisors.{Divisor, number_of}
use Rattle.nc_theory.specs.Laws.{ReducesOnce}
use Rattle.nc_theory.specs.Runs.{SequentialRun}
use Rattle.nc_theory.specs.States.{State}
use Rattle.std.proofs.Common.{None, Option, ap, inl, inr, ℕ, ◌+◌, ◌≡◌}
use Rattle.nc_theory.proofs.run_laws.reduction_law.Goals as goal

within_dec : (P : Problem) (state : State) (σ : Monomial) → Decided (IsWithin P σ)
within_dec P state σ = go (generator_dec P.setting σ.generator) (bound_dec P state None P.bound σ)
  where
    go : Decided (IsGenerator P.setting σ.generator) → Decided (IsInBound P.setting P.bound σ)
        → Decided (IsWithin P σ)
    go (inl g) (inl b) = inl (g, b)
    go (inl g) (inr n) = inr (λ w. n w.1)
    go (inr n) o = inr (λ w. n w.0)

once : (P : Problem) → IsField P.setting.prime → {n : ℕ} {state : State} {last : Option Monomial}
    → SequentialRun P n state last → (set : Monomial → Type 0) → ((σ : Monomial) → Decided (set σ))
    → ReducesOnce P.setting state.entries set
once P field {state = state} run set dec = record {
  chosen = choose P.setting field state.entries (invariant P field run).sound.nonzero set dec;
  one = λ w d e c c'. same w d e (chosen_same P.setting field state.entries set w d e c c');
  exists =
      reduce_exists P.setting field state.entries (invariant P field run).sound.nonzero set dec;
  normal =
      λ f kept steps r. kept_normal P.setting field state.entries
      (invariant P field run).sound.nonzero set r;
  unique =
      λ f f' kept kept' steps steps' e r r'. reduction_unique P.setting field state.entries
      (invariant P field run).sound.nonzero set r r' e;
}
  where
    same : (w : Word) (d e : Divisor P.setting state.entries w) → (d.listed.0 ≡ e.listed.0)
        × (d.left ≡ e.left) → (number_of P.setting state.entries w d ≡ number_of P.setting
        state.entries w e) × (d.left ≡ e.left) × (d.right ≡ e.right)
    same w d e (k, l) =
        (ap (λ n. n + 1) k, l, (parts_same P.setting field state.entries w d e k l).1)

pub returns : goal.returns
returns c P prime n state last run = (
  λ τ. once P (field_from_prime P.setting.prime prime) run (λ σ. IsLess P.setting σ τ)
      (λ σ. less_dec P.setting σ τ),
  once P (field_from_prime P.setting.prime prime) run (IsWithin P) (within_dec P state),
)
