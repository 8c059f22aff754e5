-- A number by its digits, one after another.
use Rattle.std.proofs.Common.{◌≡◌, ℕ, ◌+◌, ◌-◌, ◌*◌, ◌^◌, ◌<◌, ◌≤◌, List, length, get_or, take, ap, arith, add-one}
use Rattle.std.proofs.Math.Nat.{pow-le-pow_right, pow-suc}
use Rattle.std.proofs.lemmas.Int.Digits.{digits_value_more}
use Rattle.std.proofs.lemmas.Str.{digit_value_digit}
use Rattle.std.specs.Char.{IsAsciiDigit, digit_value}
use Rattle.std.specs.Str.Parse.{digits_value}

-- the value of one digit more
pub value_more : (digits : List ℕ) (i n digit : ℕ) → i < length digits
    → n ≡ digits_value 10 (take i digits) → digit ≡ get_or digits i 0 → IsAsciiDigit digit
    → n * 10 + (digit - 48) ≡ digits_value 10 (take (i + 1) digits)
value_more digits i n digit h e d is =
    omega (arith, digits_value_more 10 digits i h, e, digit_value_digit digit is, ap digit_value d)

-- eighteen digits and one more stay below ten to the nineteenth, which is below 2 ^ 64
pub fits : (n i digit : ℕ) → n < 10 ^ i → i < 19 → digit < 10 → n * 10 + digit < 2 ^ 64
fits n i digit h few small =
    let most : i ≤ 18 = omega arith in
    let below : 10 ^ i ≤ 10 ^ 18 = pow-le-pow_right {n = 10} (omega arith) most in
    omega arith

pub small_more : (n i digit : ℕ) → n < 10 ^ i → digit < 10 → n * 10 + digit < 10 ^ (i + 1)
small_more n i digit h small = omega (arith, ap (λ k. 10 ^ k) (add-one i), pow-suc 10 i)
