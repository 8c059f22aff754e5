-- A snapshot with what becomes of the next signature is a snapshot.
-- It stands for one step more of the run (`snapshot_goes_on`). `added_stands`, `added_degrees` and
-- `added_state` say so of what code keeps.
use Rattle.nc_algebra.specs.Elements.{HasDegree, Setting}
use Rattle.nc_algebra.specs.Monomials.{Monomial, Sig, monomial_of}
use Rattle.nc_algebra.specs.Problems.{IsProblem, NamedProblem}
use Rattle.nc_theory.proofs.UntracedRuns.{steps}
use Rattle.nc_theory.specs.Untraced.{IsNextOfRun, IsRunOf, untraced}
use Rattle.nc_snapshot.proofs.Founds.{found_degrees, found_state}
use Rattle.nc_snapshot.proofs.Leads.{some_terms}
use Rattle.nc_snapshot.specs.Outcomes.{HasTerms, found_after, outcome_of}
use Rattle.nc_snapshot.specs.Snapshots.{Found, HasDegrees, IsSnapshot, Snapshot, state_of}
use Rattle.nc_snapshot.specs.declared.outcome.Outcome.{Outcome}
use Rattle.nc_theory.specs.Runs.{Handles, Outcome as Result, SequentialRun, opening, state_after}
use Rattle.nc_theory.specs.States.{State}
use Rattle.std.proofs.lemmas.List.Elements.{All-nil}
use Rattle.std.proofs.Common.{None, [], ap, arith, refl, subst, sym, ℕ, ◌+◌, ◌<◌, ◌∙◌, ◌≡◌}

-- a new entry is not zero
pub handled_some : (s : Setting) (state : State) (τ : Monomial) (o : Result)
    → Handles s state τ o → HasTerms o
handled_some s state τ o (Handles.is_covered c) = tt
handled_some s state τ o (Handles.is_settled n u w d best r) = tt
handled_some s state τ o (Handles.is_syzygy n starts reduces) = tt
handled_some s state τ o (Handles.is_entry n {kept = kept} {t = t} starts reduces) =
    some_terms t kept

-- nothing is handled at first
pub snapshot_opens : (P : NamedProblem) → IsProblem P
    → IsSnapshot (record { problem = P; handled = 0; state = opening })
snapshot_opens P h = record {
  problem = h;
  run = record { run = opening; last = None; runs = SequentialRun.opened; stands = refl };
  few = omega arith;
}

-- a snapshot with what becomes of the next signature is one
pub snapshot_goes_on : (P : NamedProblem) (n : ℕ) (f : Found) (σ : Sig) (o : Outcome)
    → IsSnapshot (record { problem = P; handled = n; state = state_of f })
    → IsNextOfRun P.problem n (state_of f) (monomial_of σ) → n < P.problem.steps
    → Handles P.problem.setting (state_of f) (monomial_of σ) (outcome_of o)
    → IsSnapshot (record { problem = P; handled = n + 1; state = state_of (found_after f σ o) })
snapshot_goes_on P n f σ o h next left handles = record {
  problem = h.problem;
  run = subst (IsRunOf P.problem (n + 1)) (sym (found_state f σ o))
      (steps P.problem n (state_of f) (monomial_of σ) (outcome_of o) next handles);
  few = omega (arith, left);
}

-- the snapshot s, with what is kept as code has it: what becomes of it with an outcome
module _ (P : NamedProblem) (n : ℕ) (f more : Found) (σ : Sig) (o : Outcome) (s : Snapshot)
    (is : record { problem = P; handled = n; state = state_of f } ≡ s)
    (stands : IsSnapshot (record { problem = P; handled = n; state = state_of f }))
    (degrees : HasDegrees P.problem.setting f)
    (degree : HasDegree s.problem.problem.setting σ)
    (next : IsNextOfRun s.problem.problem s.handled s.state (monomial_of σ))
    (left : s.handled < s.problem.problem.steps)
    (handles : Handles s.problem.problem.setting s.state (monomial_of σ) (outcome_of o))
    (added : more ≡ found_after f σ o) where
  pub added_stands : IsSnapshot (record { problem = P; handled = n + 1; state = state_of more })
  added_stands =
      subst (λ g. IsSnapshot (record { problem = P; handled = n + 1; state = state_of g }))
      (sym added)
      (snapshot_goes_on P n f σ o stands
      (subst (λ t. IsNextOfRun t.problem.problem t.handled t.state (monomial_of σ)) (sym is)
      next)
      (subst (λ t. t.handled < t.problem.problem.steps) (sym is) left)
      (subst (λ t. Handles t.problem.problem.setting t.state (monomial_of σ) (outcome_of o))
      (sym is) handles))

  pub added_degrees : HasDegrees P.problem.setting more
  added_degrees =
      subst (HasDegrees P.problem.setting) (sym added)
      (found_degrees P.problem.setting f σ o
      (subst (λ t. HasDegree t.problem.problem.setting σ) (sym is) degree) degrees)

  pub added_state : state_of more ≡ untraced (state_after s.state (monomial_of σ) (outcome_of o))
  added_state =
      ap state_of added ∙ (found_state f σ o
      ∙ ap (λ t. untraced (state_after t.state (monomial_of σ) (outcome_of o))) is)

-- an empty list of what was found
pub nothing_stands : (P : NamedProblem) (f : Found) → IsProblem P
    → f ≡ record { entries = []; syzygies = []; covered = 0; settled = 0 }
    → IsSnapshot (record { problem = P; handled = 0; state = state_of f })
    × HasDegrees P.problem.setting f
nothing_stands P f h e = (
  subst (λ g. IsSnapshot (record { problem = P; handled = 0; state = state_of g })) (sym e)
      (snapshot_opens P h),
  subst (HasDegrees P.problem.setting) (sym e)
      (record {
        entries = All-nil (λ x. HasDegree P.problem.setting x.sig);
        syzygies = All-nil (HasDegree P.problem.setting);
      }),
)
