use Rattle.std.proofs.Common.{false, length, ◌≡◌}
use Rattle.std.specs.List.{All}
use Rattle.nc_cofactor.proofs.sweep.no_marks.Given as goal

abbrev pub invariant-loop : goal.invariant-loop
invariant-loop l = record {
  size : length l.marks.items ≡ l.counter;
  unmarked : All (λ mark. mark ≡ false) l.marks.items;
}
