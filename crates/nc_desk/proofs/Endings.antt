-- The ends that a desk comes to.
-- A desk at which nothing may be handled is at an end of the run (`complete_end`, `budget_end`),
-- and has the bases that belong to that end (`complete_bases`, `budget_bases`).
use Rattle.nc_algebra.specs.Monomials.{Sig, monomial_of}
use Rattle.nc_desk.proofs.Left.{first_next, none_left}
use Rattle.nc_desk.proofs.Steps.{least_next, next_of_run}
use Rattle.nc_desk.specs.Desks.{AreLeft, Waits}
use Rattle.nc_desk.specs.Ends.{IsEndAt}
use Rattle.nc_queue.specs.Queues.{IsAscending}
use Rattle.nc_theory.proofs.UntracedEnds.{end_facts}
use Rattle.nc_theory.proofs.UntracedRuns.{same_run}
use Rattle.nc_theory.proofs.UntracedStates.{moved_next, moved_none}
use Rattle.nc_theory.specs.EndBases.{HasBasesAt}
use Rattle.nc_snapshot.proofs.Snapshots.{snapshot_prime}
use Rattle.nc_snapshot.specs.Snapshots.{IsSnapshot, Snapshot}
use Rattle.nc_theory.specs.Runs.{End as Ending, IsEnd}
use Rattle.std.proofs.Common.{Err, List, Ok, OnErr, Result, [], arith, ◌<◌, ◌∷◌, ◌≡◌}

-- what holds anyway holds where there is an error
pub on_err : {T E P : Type 0} (r : Result T E) → P → OnErr r P
on_err (Ok x) p = tt
on_err (Err e) p = p

module _ (s : Snapshot) (h : IsSnapshot s) (ws : List Sig) (left : AreLeft s ws) where
  pub complete_end : ws ≡ [] → IsEndAt s Ending.complete
  complete_end e = record {
    run = left.run.run;
    ends = IsEnd.is_complete h.few left.run.runs
        (moved_none s.problem.problem s.state left.run.run
        (same_run s.state left.run.run left.run.stands) left.last
        (none_left s.problem.problem s.handled s.state left.last ws left.exact e));
    stands = left.run.stands;
  }

  pub complete_bases : ws ≡ [] → HasBasesAt s.problem.problem s.state Ending.complete
  complete_bases e =
      end_facts s.problem.problem (snapshot_prime s h) s.handled s.state Ending.complete
      (complete_end e)

  module _ (ascending : IsAscending ws) (σ : Sig) (others : List Sig) (is : ws ≡ σ ∷ others) where
    pub one_waits : Waits s
    one_waits = (
      monomial_of σ,
      next_of_run s h (monomial_of σ)
          (least_next s h ws left ascending σ others is),
    )

    pub budget_end : ¬ (s.handled < s.problem.problem.steps)
        → IsEndAt s (Ending.budget (monomial_of σ))
    budget_end n = record {
      run = left.run.run;
      ends = IsEnd.is_budget (omega (arith, n, h.few)) left.run.runs (monomial_of σ)
          (moved_next s.problem.problem s.state left.run.run
          (same_run s.state left.run.run left.run.stands) left.last (monomial_of σ)
          (first_next s.problem.problem s.handled s.state left.last ws left.exact ascending σ
          others is).1);
      stands = left.run.stands;
    }

    pub budget_bases : ¬ (s.handled < s.problem.problem.steps)
        → HasBasesAt s.problem.problem s.state (Ending.budget (monomial_of σ))
    budget_bases n =
        end_facts s.problem.problem (snapshot_prime s h) s.handled s.state
        (Ending.budget (monomial_of σ)) (budget_end n)
