use Rattle.std.proofs.Common.{arith, below_more, ◌∙◌, refl, ap, ◌+◌, ◌*◌, ◌<◌, List, ℕ, length, subst}
use Rattle.std.proofs.lemmas.Grind.{common_steps}
use Rattle.std.proofs.lemmas.List.{get_or_default}
use Rattle.std.specs.Char.{IsAsciiDigit}
use Rattle.std.specs.List.{All}
use Rattle.nc_field.proofs.Literals.{fits, small_more, value_more}
use Rattle.nc_field.proofs.digits.value_of.Goals as goal

pub overflow_mul-value : goal.overflow_mul-value
overflow_mul-value c =
    omega (
      arith,
      fits c.loop-digit.value c.loop-digit.digit-index 0 c.loop-digit.invariant.small
          (omega arith) (omega arith),
    )

pub overflow_add-value : goal.overflow_add-value
overflow_add-value c =
    omega (
      arith,
      fits c.loop-digit.value c.loop-digit.digit-index c.from.result
          c.loop-digit.invariant.small (omega arith)
          (omega (arith, c.if-not-is_ascii_digit.ensures.cases)),
    )

pub loop-digit-preserved : goal.loop-digit-preserved
loop-digit-preserved c =
    let is = c.if-not-is_ascii_digit.ensures.cases in
    record {
      value = ap (λ n. c.loop-digit.value * 10 + n) c.from.ensures
          ∙ value_more c.args.digits.now c.loop-digit.digit-index c.loop-digit.value _
          c.loop-digit-test.true c.loop-digit.invariant.value refl is;
      small = small_more c.loop-digit.value c.loop-digit.digit-index c.from.result
          c.loop-digit.invariant.small (omega (arith, is));
      decimal = below_more _ _ c.loop-digit.invariant.decimal is;
    }

pub returns-clause-when : goal.returns-clause-when
returns-clause-when c = (
  λ _. record { some = some; short = c.if-digits-gt-MOST_DIGITS.false; decimal = decimal },
  λ _. refl,
)
  where
    digits : List ℕ
    digits = c.args.digits.now

    some : 0 < length digits
    some = grind (arith, common_steps)

    decimal : All IsAsciiDigit digits
    decimal k d h =
        subst IsAsciiDigit (get_or_default digits k 0 d h)
        (c.loop-digit.invariant.decimal k (omega arith))
