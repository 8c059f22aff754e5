use Rattle.nc_algebra.specs.Problems.{IsWithin}
use Rattle.nc_reduce.proofs.Limits.{reduced_within}
use Rattle.nc_theory.proofs.Snapshots.{facts}
use Rattle.nc_snapshot.proofs.Snapshots.{snapshot_prime}
use Rattle.nc_theory.specs.Reductions.{Reduction}
use Rattle.std.proofs.Common.{subst}
use Rattle.nc_reduce.proofs.reduction.reduce_within.Goals as goal

pub returns : goal.returns
returns c =
    let is = c.recall_rule.ensures.snapshot in
    let known =
    facts c.args.snapshot.now.problem is.problem (snapshot_prime c.args.snapshot.now is)
    c.args.snapshot.now.handled c.args.snapshot.now.state is.run in
    subst (λ f. Reduction c.args.snapshot.now.problem.problem.setting
    c.args.snapshot.now.state.entries (IsWithin c.args.snapshot.now.problem.problem) f
    c.in_ok-poly.poly c.in_ok-poly.steps) c.in_ok-copy.ensures
    (reduced_within c.args.snapshot.now.problem.problem c.args.snapshot.now.state.entries
    (λ e k. (known.entries_within e k).0) c.in_ok-limit.limit c.in_ok-limit.ensures
    c.in_ok-poly.ensures)
