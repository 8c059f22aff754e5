use Rattle.nc_words.proofs.Occurrences.{none_found, none_further, place_found, tested_apart, tested_occurs}
use Rattle.std.proofs.Common.{arith, length, ◌+◌, ◌-◌}
use Rattle.nc_words.proofs.word.Word.place_of.Goals as goal

pub returns-then-eq : goal.returns-then-eq
returns-then-eq c =
    place_found c.args.factor.now c.args.word.now c.args.from c.loop-at.at c.loop-at.invariant.later
    c.loop-at.invariant.none (tested_occurs c.args.factor.now c.args.word.now c.loop-at.at
    (c.loop-at.at + length c.args.factor.now - c.loop-at.at) c.eq.result (omega arith)
    (omega arith) c.eq.ensures c.if-eq.true)

pub loop-at-preserved : goal.loop-at-preserved
loop-at-preserved c = record {
  later = omega arith;
  none = none_further c.args.factor.now c.args.word.now c.args.from c.loop-at.at
      c.loop-at.invariant.none (tested_apart c.args.factor.now c.args.word.now c.loop-at.at
      (c.loop-at.at + length c.args.factor.now - c.loop-at.at) c.eq.result (omega arith)
      c.eq.ensures c.if-eq.false);
}

pub returns : goal.returns
returns c =
    none_found c.args.factor.now c.args.word.now c.args.from c.loop-at.at (omega arith)
    c.loop-at.invariant.none
