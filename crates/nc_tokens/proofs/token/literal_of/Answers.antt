use Rattle.std.proofs.Common.{refl, arith}
use Rattle.nc_tokens.proofs.Values.{value_more, value_fits}
use Rattle.nc_tokens.proofs.token.literal_of.Goals as goal

pub overflow_mul-value : goal.overflow_mul-value
overflow_mul-value c =
    omega (
      arith,
      value_fits c.args.digits.now c.loop-digit.digit-index c.loop-digit.value
          (omega arith) c.loop-digit.invariant,
    )

pub overflow_add-value : goal.overflow_add-value
overflow_add-value c =
    omega (
      arith,
      c.requires c.loop-digit.digit-index c.loop-digit-test.true,
      value_fits c.args.digits.now c.loop-digit.digit-index c.loop-digit.value (omega arith)
          c.loop-digit.invariant,
    )

pub loop-digit-preserved : goal.loop-digit-preserved
loop-digit-preserved c =
    let range = c.requires c.loop-digit.digit-index c.loop-digit-test.true in
    rw (c.from.ensures) (value_more c.args.digits.now c.loop-digit.digit-index c.loop-digit.value _
    c.loop-digit-test.true refl range.0 range.1 c.loop-digit.invariant)
