-- Ends of a run without traces.
use Rattle.nc_algebra.proofs.Primes.{field_from_prime}
use Rattle.nc_algebra.specs.Primes.{IsField, IsPrime}
use Rattle.nc_algebra.specs.Problems.{Problem}
use Rattle.nc_theory.proofs.UntracedBases.{moved_bases_at, moved_canonical}
use Rattle.nc_theory.proofs.UntracedRuns.{same_run}
use Rattle.nc_theory.specs.EndBases.{AreCanonical, HasBasesAt}
use Rattle.nc_theory.specs.Untraced.{IsEndOf, IsRunOf, untraced}
use Rattle.nc_theory.proofs.Completeness.{closed_at_end, closed_below_next, enough_at_end, enough_below_next}
use Rattle.nc_theory.proofs.Ends.{end_unique}
use Rattle.nc_theory.proofs.Uniqueness.{entry_canonical, entry_unique}
use Rattle.nc_theory.specs.Runs.{End, IsEnd}
use Rattle.nc_theory.specs.States.{State}
use Rattle.std.proofs.Common.{ap, sym, ℕ, ◌∙◌, ◌≡◌}

module _ (P : Problem) (prime : IsPrime P.setting.prime) where
  field : IsField P.setting.prime
  field = field_from_prime P.setting.prime prime

  has_bases : {n : ℕ} {run : State} {ending : End} → IsEnd P n run ending → HasBasesAt P run ending
  has_bases (IsEnd.is_complete l runs none) =
      record {
        closed = closed_at_end P field runs none;
        basis = (enough_at_end P field runs none).0;
        syzygies = (enough_at_end P field runs none).1;
      }
  has_bases (IsEnd.is_budget e runs τ next) =
      record {
        closed = closed_below_next P field runs τ next;
        basis = (enough_below_next P field runs τ next).0;
        syzygies = (enough_below_next P field runs τ next).1;
      }

  pub end_facts : (n : ℕ) (state : State) (ending : End) → IsEndOf P n state ending
      → HasBasesAt P state ending
  end_facts n state ending e =
      moved_bases_at P e.run state (sym (same_run state e.run e.stands)) ending (has_bases e.ends)

  pub one_end : (n m : ℕ) (state state' : State) (e e' : End) → IsEndOf P n state e
      → IsEndOf P m state' e' → (n ≡ m) × (state ≡ state') × (e ≡ e')
  one_end n m state state' e e' a b = go (end_unique P field a.ends b.ends)
    where
      go : (n ≡ m) × (a.run ≡ b.run) × (e ≡ e') → (n ≡ m) × (state ≡ state') × (e ≡ e')
      go (i, r, k) = (i, a.stands ∙ (ap untraced r ∙ sym b.stands), k)

  pub canonical : (n : ℕ) (state : State) → IsRunOf P n state → AreCanonical P.setting state
  canonical n state r =
      moved_canonical P.setting r.run state (sym (same_run state r.run r.stands))
      (λ e k. (entry_canonical P field r.runs e k, entry_unique P field r.runs e k))
