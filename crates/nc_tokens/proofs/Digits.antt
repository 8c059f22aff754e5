-- The digits of printed numbers.
-- A number up to 4,000,000,000 has at most 18 digits, and their value is the number (`decimal_is`).
use Rattle.std.proofs.Common.{List, arith, decimal, length, refl, true, ℕ, ◌<◌, ◌∷◌, ◌≡◌, ◌≤◌, []}
use Rattle.std.proofs.lemmas.Bool.{and_from, and_parts}
use Rattle.std.proofs.lemmas.Fmt.{decimal_is_IsNumeral, decimal_nonempty, digits_decimal, length-decimal-le}
use Rattle.std.proofs.lemmas.Str.Parse.{numerals_by_value, tells_all_ascii_digits}
use Rattle.std.specs.Char.{is_ascii_digit}
use Rattle.std.specs.List.{list_all}
use Rattle.std.specs.Str.Parse.{digits_value}
use Rattle.std.specs.Str.{all_ascii_digits}

-- at most 18 digits that are the number n
pub record AreDigitsOf (ds : List ℕ) (n : ℕ) : Type 0 where
  pub some : 0 < length ds
  pub few : length ds ≤ 18
  pub digits : list_all is_ascii_digit ds ≡ true
  pub is : digits_value 10 ds ≡ n

all_digits : (ds : List ℕ) → all_ascii_digits ds ≡ true → list_all is_ascii_digit ds ≡ true
all_digits [] h = refl
all_digits (d ∷ ds) h =
    let k = and_parts (is_ascii_digit d) (all_ascii_digits ds) h in
    and_from _ _ k.0 (all_digits ds k.1)

pub decimal_is : (n : ℕ) → n ≤ 4000000000 → AreDigitsOf (decimal n) n
decimal_is n small = record {
  some = decimal_nonempty n (omega arith);
  few = length-decimal-le 18 n (omega arith) (omega arith) (omega arith);
  digits =
      all_digits (decimal n) (digits_decimal
      (numerals_by_value (λ ds. all_ascii_digits ds ≡ true) tells_all_ascii_digits) n
      (omega arith));
  is = (decimal_is_IsNumeral n (omega arith)).1;
}

pub one_is : AreDigitsOf (49 ∷ []) 1
one_is = record { some = omega arith; few = omega arith; digits = refl; is = refl }
