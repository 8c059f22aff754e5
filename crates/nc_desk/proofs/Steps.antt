-- A step of a snapshot and of what is kept beside it.
-- A step appends to shared copies, inserts what the outcome brings (`advances`), and takes out the
-- least, which is the signature that was handled (`left_taken`).
use Rattle.nc_algebra.specs.Elements.{HasDegree}
use Rattle.nc_algebra.specs.Monomials.{Monomial, Sig, monomial_of}
use Rattle.nc_desk.proofs.Left.{first_next, later_run, left_later, none_next}
use Rattle.nc_desk.specs.Desks.{AreLeft, IsNextAt, Waits}
use Rattle.nc_desk.specs.Steps.{AreNews, IsAdvance, IsBrought, IsStep}
use Rattle.nc_index.specs.Pairs.{Lead}
use Rattle.nc_queue.specs.Queues.{IsAscending, IsUnion}
use Rattle.nc_theory.proofs.UntracedSteps.{goes_on}
use Rattle.nc_theory.specs.Untraced.{IsNextOfRun, untraced}
use Rattle.nc_snapshot.proofs.Snapshots.{snapshot_prime}
use Rattle.nc_snapshot.specs.Snapshots.{IsSnapshot, Snapshot}
use Rattle.nc_theory.specs.Runs.{state_after}
use Rattle.std.proofs.Common.{Contains, IfSome, IsNone, List, None, Option, Some, [], ap, arith, inl, inr, refl, subst, sym, ◌+◌, ◌∷◌, ◌≡◌, ◌↔◌, ◌⊎◌}

pub next_of_run : (s : Snapshot) → IsSnapshot s → (τ : Monomial) → IsNextAt s τ
    → IsNextOfRun s.problem.problem s.handled s.state τ
next_of_run s h τ x =
    (goes_on s.problem.problem (snapshot_prime s h) s.handled s.state x.last x.run).next τ x.next

-- what was appended and inserted
module _ (s later : Snapshot) (step : IsStep s later) where
  later_is : later ≡ record {
    problem = s.problem;
    handled = s.handled + 1;
    state = untraced (state_after s.state step.signature step.outcome);
  }
  later_is = λ i. record {
    problem = step.problem i;
    handled = step.handled i;
    state = step.state i;
  }

  module _ (leads : List Lead) (old found new : List Sig) (news : AreNews s later leads found)
      (union : IsUnion old found new) (ascending : IsAscending new) where
    added : (σ : Sig) → Contains new σ
        ↔ (Contains old σ ⊎ IsBrought s.problem.problem s.state step.signature step.outcome σ)
    added σ = (λ c. there ((union σ).0 c), λ c. (union σ).1 (back c))
      where
        there : Contains old σ ⊎ Contains found σ → Contains old σ
            ⊎ IsBrought s.problem.problem s.state step.signature step.outcome σ
        there (inl c) = inl c
        there (inr c) = inr ((news.exact step σ).0 c)

        back : Contains old σ ⊎ IsBrought s.problem.problem s.state step.signature step.outcome σ
            → Contains old σ ⊎ Contains found σ
        back (inl c) = inl c
        back (inr b) = inr ((news.exact step σ).1 b)

    pub advances : IsAdvance s step.signature later leads old new
    advances =
        record {
          outcome = step.outcome;
          handles = step.handles;
          snapshot = later_is;
          listed = news.listed;
          ascending = ascending;
          added = added;
        }

-- ---- the desk's parts

module _ (s : Snapshot) (h : IsSnapshot s) (ws : List Sig) (left : AreLeft s ws) where
  pub some_left : Waits s → ws ≡ [] → ⊥
  some_left w e =
      none_next s.problem.problem s.handled s.state left.last ws left.exact e (snapshot_prime s h)
      left.run w.0 w.1

  module _ (ascending : IsAscending ws) (σ : Sig) (others : List Sig) (is : ws ≡ σ ∷ others) where
    pub least_degree : HasDegree s.problem.problem.setting σ
    least_degree =
        (first_next s.problem.problem s.handled s.state left.last ws left.exact ascending σ others
        is).0

    pub least_next : IsNextAt s (monomial_of σ)
    least_next =
        record {
          last = left.last;
          run = left.run;
          next = (first_next s.problem.problem s.handled s.state left.last ws left.exact ascending σ
              others is).1;
        }

    module _ (later : Snapshot) (leads : List Lead) (new : List Sig)
        (a : IsAdvance s (monomial_of σ) later leads ws new) where
      pub is_step : IsStep s later
      is_step = record {
        signature = monomial_of σ;
        outcome = a.outcome;
        next = next_of_run s h (monomial_of σ) least_next;
        handles = a.handles;
        problem = ap (λ (t : Snapshot). t.problem) a.snapshot;
        handled = ap (λ (t : Snapshot). t.handled) a.snapshot;
        state = ap (λ (t : Snapshot). t.state) a.snapshot;
      }

      pub left_then : (first : Sig) (rest : List Sig) → new ≡ first ∷ rest → AreLeft later rest
      left_then first rest taken =
          subst (λ (t : Snapshot). AreLeft t rest) (sym a.snapshot) (record {
            last = Some (monomial_of σ);
            run = later_run s.problem.problem s.handled s.state left.last ws left.exact
                (snapshot_prime s h) left.run ascending σ others is a.outcome a.handles new
                a.ascending
                a.added first rest taken;
            exact = left_later s.problem.problem s.handled s.state left.last ws left.exact
                (snapshot_prime s h) left.run ascending σ others is a.outcome a.handles new
                a.ascending
                a.added first rest taken;
          })

      pub some_then : new ≡ [] → ⊥
      some_then e =
          omega (
            arith,
            (subst (λ l. Contains l σ) e
                ((a.added σ).1 (inl (subst (λ l. Contains l σ) (sym is) (
                  0,
                  omega arith,
                  refl,
                ))))).1,
          )

      -- whatever is taken out first
      pub left_taken : {A : Type 0} (f : A → Sig) (rest : List Sig) (o : Option A)
          → IfSome o (λ x. new ≡ f x ∷ rest) → IsNone o ↔ (new ≡ []) → AreLeft later rest
      left_taken f rest None h n = absurd (some_then (n.0 refl))
      left_taken f rest (Some x) h n = left_then (f x) rest h
