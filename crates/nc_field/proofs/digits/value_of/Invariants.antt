use Rattle.std.proofs.Common.{◌≡◌, ℕ, ◌<◌, ◌^◌, get_or, take}
use Rattle.std.specs.Char.{IsAsciiDigit}
use Rattle.std.specs.Str.Parse.{digits_value}
use Rattle.nc_field.proofs.digits.value_of.Given as goal

abbrev pub invariant-loop-digit : goal.invariant-loop-digit
invariant-loop-digit l = record {
  value : l.value ≡ digits_value 10 (take l.digit-index l.digits);
  small : l.value < 10 ^ l.digit-index;
  decimal : (k : ℕ) → k < l.digit-index → IsAsciiDigit (get_or l.digits k 0);
}
