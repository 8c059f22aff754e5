use Rattle.nc_cofactor.specs.Labels.{AreSyzygyLabels}
use Rattle.std.proofs.Common.{length, ◌≡◌, ◌≤◌}
use Rattle.std.specs.List.{All}
use Rattle.nc_cofactor.proofs.labels.Labels.syzygies.Given as goal

abbrev pub invariant-loop-i : goal.invariant-loop-i
invariant-loop-i l = record {
  labels : AreSyzygyLabels l.snapshot.problem.problem l.snapshot.handled l.kept.items;
  count : length l.kept.items ≡ l.i;
  few : All (λ m. length m ≤ l.limit) l.kept.items;
}
