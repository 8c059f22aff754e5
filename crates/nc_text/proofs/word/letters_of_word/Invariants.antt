use Rattle.std.proofs.Common.{◌≤◌, length}
use Rattle.nc_text.specs.Reading.{word_at}
use Rattle.nc_text.proofs.Words.{IsOnTheWay}
use Rattle.nc_text.proofs.word.letters_of_word.Given as goal

abbrev pub invariant-factors : goal.invariant-factors
invariant-factors l = record {
  reads : IsOnTheWay l.alphabet l.word.items l.line (word_at l.alphabet l.fn.line);
  short : length l.word.items ≤ 255;
}

abbrev pub decreases-factors : goal.decreases-factors
decreases-factors l = length l.line
