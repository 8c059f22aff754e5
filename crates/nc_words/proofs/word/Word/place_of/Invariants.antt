use Rattle.nc_words.proofs.Occurrences.{NoneBetween}
use Rattle.std.proofs.Common.{◌≤◌}
use Rattle.nc_words.proofs.word.Word.place_of.Given as goal

abbrev pub invariant-loop-at : goal.invariant-loop-at
invariant-loop-at l = record {
  later : l.from ≤ l.at;
  none : NoneBetween l.factor l.word l.from l.at;
}
