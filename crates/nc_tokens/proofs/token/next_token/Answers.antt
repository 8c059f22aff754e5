use Rattle.std.proofs.Common.{◌≡◌, refl, List, sym, subst, ◌∙◌, take, ℕ}
use Rattle.std.specs.List.{prefix_len}
use Rattle.std.specs.Char.{is_ascii_digit}
use Rattle.nc_tokens.proofs.Values.{AreDigits, front_digits}
use Rattle.nc_tokens.proofs.Pieces.{after_blanks, token_none, token_digits, token_name, token_sign}
use Rattle.nc_tokens.proofs.token.next_token.Goals as goal

pub returns-in_default : goal.returns-in_default
returns-in_default c =
    let e : c.split_at.result.1.now ≡ after_blanks c.args.bytes.now =
    cc in token_none c.args.bytes.now c.split_at.result.1.now e c.in_default.len_below

pub literal_of-requires : goal.literal_of-requires
literal_of-requires c =
    let xs = c.split_at.result.1.now in
    let e : c.split_at-then-is_ascii_digit.result.0.now ≡ take (prefix_len is_ascii_digit xs) xs =
    cc in
    subst (λ (l : List ℕ). AreDigits l) (sym e) (front_digits xs)

pub returns-then-is_ascii_digit : goal.returns-then-is_ascii_digit
returns-then-is_ascii_digit c =
    let e : c.split_at.result.1.now ≡ after_blanks c.args.bytes.now = cc in
    token_digits c.args.bytes.now c.split_at.result.1.now _ _ e c.in-len1-up.len_at_least
    (sym c.is_ascii_digit.ensures.value ∙ c.if-is_ascii_digit.true) (cc) (cc)
    ∙ sym (c.literal_of.ensures _)

pub returns-then-is_ascii_alphabetic : goal.returns-then-is_ascii_alphabetic
returns-then-is_ascii_alphabetic c =
    let e : c.split_at.result.1.now ≡ after_blanks c.args.bytes.now = cc in
    token_name c.args.bytes.now c.split_at.result.1.now _ _ e c.in-len1-up.len_at_least
    (sym c.is_ascii_alphabetic.ensures.value ∙ c.if-is_ascii_alphabetic.true) (cc) (cc)

pub returns-else-is_ascii_alphabetic : goal.returns-else-is_ascii_alphabetic
returns-else-is_ascii_alphabetic c =
    let e : c.split_at.result.1.now ≡ after_blanks c.args.bytes.now = cc in
    token_sign c.args.bytes.now c.split_at.result.1.now _ e c.in-len1-up.len_at_least
    (sym c.is_ascii_digit.ensures.value ∙ c.if-is_ascii_digit.false)
    (sym c.is_ascii_alphabetic.ensures.value ∙ c.if-is_ascii_alphabetic.false) refl
    ∙ sym (c.sign_of.ensures _)
