use Rattle.nc_algebra.specs.Words.{word_weight}
use Rattle.std.proofs.Common.{take, ◌*◌, ◌≡◌, ◌≤◌}
use Rattle.nc_words.proofs.word.weight_of.Given as goal

abbrev pub invariant-loop-letter : goal.invariant-loop-letter
invariant-loop-letter l = record {
  sum : l.sum ≡ word_weight (take l.letter-index l.letters);
  few : l.sum ≤ 100 * l.letter-index;
}
