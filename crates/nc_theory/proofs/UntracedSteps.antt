-- How a run without traces goes on.
use Rattle.nc_algebra.proofs.Primes.{field_from_prime}
use Rattle.nc_algebra.specs.Monomials.{Monomial}
use Rattle.nc_algebra.specs.Primes.{IsField, IsPrime}
use Rattle.nc_algebra.specs.Problems.{IsWithin, Problem}
use Rattle.nc_theory.proofs.UntracedRuns.{same_run}
use Rattle.nc_theory.proofs.UntracedStates.{SameStates, moved_brings, moved_candidate, moved_handles, moved_next, moved_none, same_after, untraced_twice}
use Rattle.nc_theory.specs.UntracedLaws.{GoesOn}
use Rattle.nc_theory.specs.Untraced.{IsRunTo, untraced}
use Rattle.nc_theory.proofs.Ascent.{ascent, waiting}
use Rattle.nc_theory.proofs.Completeness.{invariant}
use Rattle.nc_theory.proofs.Determinism.{handles_unique}
use Rattle.nc_theory.proofs.Ends.{handles_exists, next_exists, source}
use Rattle.nc_theory.specs.Runs.{BringsAmbiguity, Handles, IsCandidate, IsNext, IsWaiting, NoneWaits, Outcome, SequentialRun, state_after}
use Rattle.nc_theory.specs.States.{State}
use Rattle.std.proofs.Common.{Option, Some, add-one, inl, inr, subst, sym, ℕ, ◌+◌, ◌∙◌, ◌↔◌, ◌≢◌, ◌⊎◌}

module _ (P : Problem) (prime : IsPrime P.setting.prime) (n : ℕ) (state : State)
    (last : Option Monomial) (r : IsRunTo P n state last) where
  field : IsField P.setting.prime
  field = field_from_prime P.setting.prime prime

  same : SameStates state r.run
  same = same_run state r.run r.stands

  there : (τ : Monomial) → IsNext P state last τ → IsNext P r.run last τ
  there τ = moved_next P state r.run same last τ

  handled : (τ : Monomial) (o : Outcome) → Handles P.setting state τ o → Handles P.setting r.run τ o
  handled τ o = moved_handles P.setting state r.run same τ o

  waits_or_not : ((τ : Monomial) × IsNext P state last τ) ⊎ NoneWaits P state last
  waits_or_not = go (next_exists P r.run last)
    where
      go : ((τ : Monomial) × IsNext P r.run last τ) ⊎ NoneWaits P r.run last
          → ((τ : Monomial) × IsNext P state last τ) ⊎ NoneWaits P state last
      go (inl (τ, x)) = inl (τ, moved_next P r.run state (sym same) last τ x)
      go (inr x) = inr (moved_none P r.run state (sym same) last x)

  outcome : (τ : Monomial) → IsCandidate P state τ → (o : Outcome) × Handles P.setting state τ o
  outcome τ c =
      go (handles_exists P.setting field r.run (invariant P field r.runs).sound.nonzero τ
      (source P field r.run τ (moved_candidate P state r.run same τ c)))
    where
      go : (o : Outcome) × Handles P.setting r.run τ o → (o : Outcome) × Handles P.setting state τ o
      go (o, h) = (o, moved_handles P.setting r.run state (sym same) τ o h)

  step : (τ : Monomial) (o : Outcome) → IsNext P state last τ → Handles P.setting state τ o
      → IsRunTo P (n + 1) (untraced (state_after state τ o)) (Some τ)
  step τ o next h = record {
    run = state_after r.run τ o;
    runs = subst (λ m. SequentialRun P m (state_after r.run τ o) (Some τ)) (sym (add-one n))
        (SequentialRun.handled r.runs τ (there τ next) o (handled τ o h));
    stands = same_after state r.run same τ o;
  }

  waits : (τ : Monomial) (o : Outcome) → IsNext P state last τ → Handles P.setting state τ o
      → (ρ : Monomial) → IsWaiting P (untraced (state_after state τ o)) (Some τ) ρ
      ↔ ((IsWaiting P state last ρ × (ρ ≢ τ))
      ⊎ (IsWithin P ρ × BringsAmbiguity P.setting state τ o ρ))
  waits τ o next h ρ = (
    λ c. forth (law.0 (moved_candidate P after later alike ρ c.0, c.1)),
    λ a. again (law.1 (back a)),
  )
    where
      after : State
      after = untraced (state_after state τ o)

      later : State
      later = state_after r.run τ o

      alike : SameStates after later
      alike = untraced_twice (state_after state τ o) ∙ same_after state r.run same τ o

      law : IsWaiting P (state_after r.run τ o) (Some τ) ρ
          ↔ ((IsWaiting P r.run last ρ × (ρ ≢ τ))
          ⊎ (IsWithin P ρ × BringsAmbiguity P.setting r.run τ o ρ))
      law = waiting P field r.runs τ (there τ next) (handled τ o h) ρ

      again : IsWaiting P (state_after r.run τ o) (Some τ) ρ
          → IsWaiting P (untraced (state_after state τ o)) (Some τ) ρ
      again c = (
        moved_candidate P (state_after r.run τ o) (untraced (state_after state τ o)) (sym alike)
            ρ c.0,
        c.1,
      )

      forth : (IsWaiting P r.run last ρ × (ρ ≢ τ))
          ⊎ (IsWithin P ρ × BringsAmbiguity P.setting r.run τ o ρ)
          → (IsWaiting P state last ρ × (ρ ≢ τ))
          ⊎ (IsWithin P ρ × BringsAmbiguity P.setting state τ o ρ)
      forth (inl (c, n)) = inl ((moved_candidate P r.run state (sym same) ρ c.0, c.1), n)
      forth (inr (i, b)) = inr (i, moved_brings P.setting r.run state (sym same) τ o ρ b)

      back : (IsWaiting P state last ρ × (ρ ≢ τ))
          ⊎ (IsWithin P ρ × BringsAmbiguity P.setting state τ o ρ)
          → (IsWaiting P r.run last ρ × (ρ ≢ τ))
          ⊎ (IsWithin P ρ × BringsAmbiguity P.setting r.run τ o ρ)
      back (inl (c, n)) = inl ((moved_candidate P state r.run same ρ c.0, c.1), n)
      back (inr (i, b)) = inr (i, moved_brings P.setting state r.run same τ o ρ b)

  pub goes_on : GoesOn P n state last
  goes_on = record {
    stands = record { run = r.run; last = last; runs = r.runs; stands = r.stands };
    waits_or_not = waits_or_not;
    outcome = outcome;
    one_outcome =
        λ τ o o' h h'. handles_unique P.setting field r.run (invariant P field r.runs).sound.nonzero
        τ (handled τ o h) (handled τ o' h');
    next = λ τ x. record {
      run = r.run;
      last = last;
      runs = r.runs;
      stands = r.stands;
      next = there τ x;
    };
    step = step;
    waits = waits;
    ascends =
        λ τ o x h ρ b. ascent P field r.runs τ (there τ x) (handled τ o h) ρ
        (moved_brings P.setting state r.run same τ o ρ b);
  }
