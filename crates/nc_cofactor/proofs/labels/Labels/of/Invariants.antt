use Rattle.nc_cofactor.specs.Labels.{AreLabels}
use Rattle.std.proofs.Common.{length, ◌≡◌, ◌≤◌}
use Rattle.std.specs.List.{All}
use Rattle.nc_cofactor.proofs.labels.Labels.of.Given as goal

abbrev pub invariant-loop-i : goal.invariant-loop-i
invariant-loop-i l = record {
  labels : AreLabels l.snapshot.problem.problem l.snapshot.handled l.kept.items;
  count : length l.kept.items ≡ l.i;
  few : All (λ m. length m ≤ l.limit) l.kept.items;
}
