use Rattle.nc_algebra.proofs.Words.{weight_more}
use Rattle.std.proofs.Common.{arith}
use Rattle.nc_words.proofs.word.weight_of.Goals as goal

pub loop-letter-preserved : goal.loop-letter-preserved
loop-letter-preserved c = record {
  sum = omega (
    arith,
    weight_more c.args.letters.now c.loop-letter.letter-index c.letter-item.result
        (omega arith) c.letter-item.is,
    c.weight.ensures.value,
  );
  few = omega arith;
}
