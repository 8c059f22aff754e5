use Rattle.nc_cert.specs.Spent.{letter_count}
use Rattle.std.proofs.Common.{take, ◌*◌, ◌≡◌, ◌≤◌}
use Rattle.nc_cert.proofs.charge.letter_count.Given as goal

abbrev pub invariant-loop-term : goal.invariant-loop-term
invariant-loop-term l = record {
  letters : l.letters ≡ letter_count (take l.term-index l.f);
  few : l.letters ≤ 200000 * l.term-index;
}
