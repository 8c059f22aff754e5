use Rattle.nc_cofactor.proofs.Marks.{marks_begin, marks_end, marks_more, numbers_mark}
use Rattle.std.proofs.Common.{arith, get_or, length, refl, sym, ℕ, ◌<◌}
use Rattle.std.proofs.lemmas.Grind.{get_or_default_zero}
use Rattle.nc_cofactor.proofs.sweep.mark_numbers.Goals as goal

pub loop-number-init : goal.loop-number-init
loop-number-init c =
    marks_begin (λ (n : ℕ). n) c.args.marks.now c.args.marks.now c.args.numbers.now refl

pub loop-number-preserved : goal.loop-number-preserved
loop-number-preserved c =
    let i = c.loop-number.number-index in
    let within : i < length c.args.numbers.now = c.loop-number-test.true in
    marks_more (λ (n : ℕ). n) c.args.marks.now c.loop-number.marks c.set_mark.new.marks
    c.args.numbers.now i (get_or c.args.numbers.now i 0) within
    (sym (get_or_default_zero c.args.numbers.now i (get_or c.args.numbers.now i 0) within))
    c.loop-number.invariant c.set_mark.ensures

pub returns : goal.returns
returns c =
    numbers_mark c.args.marks.now c.loop-number.marks c.args.numbers.now
    (marks_end (λ (n : ℕ). n) c.args.marks.now c.loop-number.marks c.args.numbers.now
    c.loop-number.number-index (omega arith) c.loop-number.invariant)
