use Rattle.nc_algebra.specs.Problems.{NamedProblem}
use Rattle.nc_desk.proofs.Left.{left_at_first}
use Rattle.nc_desk.specs.Desks.{IsDesk}
use Rattle.nc_queue.specs.Queues.{IsUnitWithin}
use Rattle.nc_snapshot.specs.Snapshots.{Snapshot}
use Rattle.nc_theory.specs.Runs.{SequentialRun, opening}
use Rattle.nc_algebra.specs.Monomials.{Sig}
use Rattle.std.proofs.Common.{Contains, None, refl, subst, sym, ◌↔◌}
use Rattle.nc_desk.proofs.desk.Desk.open.Goals as goal

pub invariant_of-result : goal.invariant_of-result
invariant_of-result c =
    let P : NamedProblem = c.args.problem.value in
    let first : Snapshot = record { problem = P; handled = 0; state = opening } in
    let units : (σ : Sig) → Contains c.in_ok-waiting.waiting σ ↔ IsUnitWithin P.problem σ =
    subst (λ (Q : NamedProblem). (σ : Sig) → Contains c.in_ok-waiting.waiting σ
    ↔ IsUnitWithin Q.problem σ) c.deref.ensures c.in_ok-waiting.ensures.units in
    subst (λ (s : Snapshot). IsDesk s c.empty-2.result c.in_ok-waiting.waiting c.args.window)
    (sym c.empty.ensures) (record {
      listed = c.empty-2.ensures;
      left = record {
        last = None;
        run = record {
          run = opening;
          runs = SequentialRun.opened;
          stands = refl;
        };
        exact = left_at_first P.problem c.in_ok-waiting.waiting units;
      };
      some = c.requires.some;
      few = c.requires.few;
    })
