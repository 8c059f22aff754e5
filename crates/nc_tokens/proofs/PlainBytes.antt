-- Bytes that may stand in a line and begin no comment; those of numbers and names are.
use Rattle.nc_algebra.specs.Alphabets.{is_name, is_name_byte}
use Rattle.nc_tokens.proofs.Digits.{decimal_is}
use Rattle.nc_tokens.specs.Lines.{is_allowed}
use Rattle.std.proofs.Common.{Bool, List, [], arith, decimal, eqb, false, length, not, refl, true, ℕ, ◌&&◌, ◌++◌, ◌∙◌, ◌∷◌, ◌≡◌, ◌≤◌}
use Rattle.std.proofs.lemmas.Bool.Decides.{nat_tests}
use Rattle.std.proofs.lemmas.Bool.{and_from, and_parts}
use Rattle.std.proofs.lemmas.List.Folds.{list_all-append}
use Rattle.std.specs.Char.{is_ascii_alphabetic, is_ascii_digit}
use Rattle.std.specs.Int.{is_in_range}
use Rattle.std.specs.List.{list_all}
use Rattle.std.specs.Prelude.{nat_le, slice_index}

-- the bytes 32 to 126 but `#`
abbrev pub is_plain : ℕ → Bool
is_plain b = is_in_range 32 126 b && not (eqb b 35)

abbrev pub ArePlain : List ℕ → Type 0
ArePlain bytes = list_all is_plain bytes ≡ true

-- what a plain byte is not, and that it is allowed
pub plain_facts : (b : ℕ) → is_plain b ≡ true → (eqb b 10 ≡ false) × (eqb b 13 ≡ false)
    × (eqb b 35 ≡ false) × (is_allowed b ≡ true)
plain_facts b e = (
  grind (arith, nat_tests),
  grind (arith, nat_tests),
  grind (arith, nat_tests),
  grind (arith, nat_tests),
)

pub all_weaker : (p q : ℕ → Bool) → ((b : ℕ) → p b ≡ true → q b ≡ true) → (bs : List ℕ)
    → list_all p bs ≡ true → list_all q bs ≡ true
all_weaker p q f [] h = refl
all_weaker p q f (b ∷ bs) h =
    let k = and_parts (p b) (list_all p bs) h in and_from _ _ (f b k.0) (all_weaker p q f bs k.1)

pub plain_append : (xs ys : List ℕ) → ArePlain xs → ArePlain ys → ArePlain (xs ++ ys)
plain_append xs ys h k = list_all-append is_plain xs ys ∙ and_from _ _ h k

digit_plain : (b : ℕ) → is_ascii_digit b ≡ true → is_plain b ≡ true
digit_plain b e = grind (arith, nat_tests)

name_byte_plain : (b : ℕ) → is_name_byte b ≡ true → is_plain b ≡ true
name_byte_plain b e = grind (arith, nat_tests)

pub decimal_plain : (n : ℕ) → n ≤ 4000000000 → ArePlain (decimal n)
decimal_plain n small =
    all_weaker is_ascii_digit is_plain digit_plain (decimal n) (decimal_is n small).digits

pub name_plain : (name : List ℕ) → is_name name ≡ true → ArePlain name
name_plain name h =
    all_weaker is_name_byte is_plain name_byte_plain name
    (and_parts (is_ascii_alphabetic (slice_index name 0)) (list_all is_name_byte name)
    (and_parts (nat_le (length name) 16) _ h).1).1
