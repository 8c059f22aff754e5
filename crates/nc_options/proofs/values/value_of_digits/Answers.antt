use Rattle.std.proofs.Common.{rules, ◌≡◌, ◌∙◌, ◌<◌, ◌≤◌, ◌^◌, ap, sym, List, ℕ, true, length, Some, arith}
use Rattle.std.specs.List.{list_all}
use Rattle.std.specs.Prelude.{nat_le, nat_lt}
use Rattle.std.specs.Result.{result_ok}
use Rattle.std.proofs.lemmas.Bool.{le-leb, lt-ltb}
use Rattle.nc_options.specs.Values.{digits_of}
use Rattle.std.specs.Char.{is_ascii_digit}
use Rattle.std.specs.Str.Parse.{digits_value}
use Rattle.std.proofs.lemmas.Str.Parse.{IsNumeralModel, numerals_by_value, parse_gives, digits_value_short}
use Rattle.nc_options.proofs.values.value_of_digits.Goals as goal

own : IsNumeralModel (λ ds. list_all is_ascii_digit ds ≡ true) (digits_value 10)
own = numerals_by_value _ (search rules)

fits : (v : ℕ) → v < 10 ^ 18 → v < 2 ^ 64
fits v h = omega arith

-- the text passes the three tests
tested : (text : List ℕ) → 0 < length text → length text ≤ 18 → list_all is_ascii_digit text ≡ true
    → digits_of text ≡ Some (digits_value 10 text)
tested text some short digits =
    let is_some : nat_lt 0 (length text) ≡ true = lt-ltb _ _ some in
    let is_short : nat_le (length text) 18 ≡ true = le-leb _ _ short in
    simp (is_some, is_short, digits)

pub returns : goal.returns
returns c =
    let digits : list_all is_ascii_digit c.args.text.now ≡ true = search rules in
    let short : length c.args.text.now ≤ 18 = omega arith in
    let some : 0 < length c.args.text.now = search rules in
    c.ok.ensures.value
    ∙ ap result_ok (parse_gives own 64 c.args.text.now c.parse.result c.parse.ensures.value.0 digits
    some (fits _ (digits_value_short own c.args.text.now 18 digits short)))
    ∙ sym (tested c.args.text.now some short digits)
