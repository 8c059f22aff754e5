-- The sequential run without traces.
-- A state stands for that of the run if it is the same without traces. Both have the same items
-- (`same_run`), so the laws on runs carry over.
use Rattle.nc_algebra.proofs.Primes.{field_from_prime}
use Rattle.nc_algebra.specs.Monomials.{Monomial}
use Rattle.nc_algebra.specs.Primes.{IsPrime}
use Rattle.nc_algebra.specs.Problems.{Problem}
use Rattle.nc_theory.proofs.UntracedStates.{SameStates, moved_handles, same_after, untraced_twice}
use Rattle.nc_theory.specs.UntracedLaws.{UntracedRuns}
use Rattle.nc_theory.specs.Untraced.{IsNextOfRun, IsRunOf, untraced}
use Rattle.nc_theory.proofs.Determinism.{next_unique, run_unique}
use Rattle.nc_theory.specs.Runs.{Handles, IsNext, Outcome, SequentialRun, opening, state_after}
use Rattle.nc_theory.specs.States.{State}
use Rattle.std.proofs.Common.{None, Some, add-one, ap, refl, subst, sym, ℕ, ◌+◌, ◌∙◌, ◌≡◌}

-- the state that stands for the run's has its items
pub same_run : (state run : State) → state ≡ untraced run → SameStates state run
same_run state run e = ap untraced e ∙ untraced_twice run

module _ (P : Problem) where
  opens : IsRunOf P 0 opening
  opens = record { run = opening; last = None; runs = SequentialRun.opened; stands = refl }

  pub steps : (n : ℕ) (state : State) (τ : Monomial) (o : Outcome) → IsNextOfRun P n state τ
      → Handles P.setting state τ o → IsRunOf P (n + 1) (untraced (state_after state τ o))
  steps n state τ o r h = record {
    run = state_after r.run τ o;
    last = Some τ;
    runs = subst (λ m. SequentialRun P m (state_after r.run τ o) (Some τ)) (sym (add-one n))
        (SequentialRun.handled r.runs τ r.next o
        (moved_handles P.setting state r.run (same_run state r.run r.stands) τ o h));
    stands = same_after state r.run (same_run state r.run r.stands) τ o;
  }

  one : IsPrime P.setting.prime → (n : ℕ) (state state' : State) → IsRunOf P n state
      → IsRunOf P n state' → state ≡ state'
  one prime n state state' a b =
      a.stands ∙ (ap untraced (run_unique P (field_from_prime P.setting.prime prime) a.runs
      b.runs).0 ∙ sym b.stands)

  one_next : IsPrime P.setting.prime → (n : ℕ) (state state' : State) (τ τ' : Monomial)
      → IsNextOfRun P n state τ → IsNextOfRun P n state' τ' → τ ≡ τ'
  one_next prime n state state' τ τ' a b =
      next_unique P b.run b.last τ τ'
      (subst (λ l. IsNext P b.run l τ) same.1 (subst (λ r. IsNext P r a.last τ) same.0 a.next))
      b.next
    where
      same : (a.run ≡ b.run) × (a.last ≡ b.last)
      same = run_unique P (field_from_prime P.setting.prime prime) a.runs b.runs

  pub untraced_runs : UntracedRuns P
  untraced_runs = record {
    opens = opens;
    stands = λ n state τ r. record { run = r.run; last = r.last; runs = r.runs; stands = r.stands };
    steps = steps;
    one = one;
    one_next = one_next;
  }
