-- The tokens of printed pieces, before any bytes that end them.
-- A printed name or number is one token before a byte that does not go on with it (`name_token`,
-- `literal_token`).
use Rattle.nc_algebra.specs.Alphabets.{is_name, is_name_byte}
use Rattle.nc_tokens.proofs.Digits.{AreDigitsOf}
use Rattle.nc_tokens.proofs.Pieces.{counted_piece, nothing_goes, one_piece}
use Rattle.nc_tokens.specs.Tokens.{Close, Literal, Name, Open, Times, Token, Plus, is_blank, pieces, sign_of, token_of, tokens}
use Rattle.std.proofs.Common.{Bool, List, [], ap, arith, drop, false, length, refl, suc, take, true, ℕ, ◌&&◌, ◌++◌, ◌+◌, ◌∙◌, ◌∷◌, ◌≡◌}
use Rattle.std.proofs.lemmas.Bool.Decides.{nat_tests}
use Rattle.std.proofs.lemmas.Bool.{and_parts, le-ltb}
use Rattle.std.specs.Char.{is_ascii_alphabetic, is_ascii_digit}
use Rattle.std.specs.List.{list_all, prefix_len}
use Rattle.std.specs.Prelude.{nat_le, nat_lt}

-- what follows a literal or a name does not go on with it
abbrev pub IsBreak : List ℕ → Type 0
IsBreak [] = Unit {0}
IsBreak (b ∷ bs) = (is_ascii_digit b ≡ false) × (is_name_byte b ≡ false)

abbrev Stops : (ℕ → Bool) → List ℕ → Type 0
Stops p [] = Unit {0}
Stops p (b ∷ bs) = p b ≡ false

-- a whole piece stands in front
whole : (p : ℕ → Bool) (o rest : List ℕ) → list_all p o ≡ true → Stops p rest
    → (take (prefix_len p (o ++ rest)) (o ++ rest) ≡ o)
    × (drop (prefix_len p (o ++ rest)) (o ++ rest) ≡ rest)
whole p [] [] h stops = (refl, refl)
whole p [] (b ∷ rest) h stops = (rw stops refl, rw stops refl)
whole p (x ∷ o) rest h stops =
    let k = and_parts (p x) (list_all p o) h in
    let again = whole p o rest k.1 stops in
    let n = prefix_len p (o ++ rest) in
    let one : 1 + n ≡ suc n = omega arith in
    (rw (k.0, one) (ap (λ (l : List ℕ). x ∷ l) again.0), rw (k.0, one) again.1)

stops_name : (rest : List ℕ) → IsBreak rest → Stops is_name_byte rest
stops_name [] h = tt
stops_name (b ∷ rest) h = h.1

stops_digit : (rest : List ℕ) → IsBreak rest → Stops is_ascii_digit rest
stops_digit [] h = tt
stops_digit (b ∷ rest) h = h.0

letter_facts : (x : ℕ) → is_ascii_alphabetic x ≡ true → (is_ascii_digit x ≡ false)
    × (is_blank x ≡ false) × (is_name_byte x ≡ true)
letter_facts x e = (grind (arith, nat_tests), grind (arith, nat_tests), grind (arith, nat_tests))

digit_facts : (x : ℕ) → is_ascii_digit x ≡ true → is_blank x ≡ false
digit_facts x e = grind (arith, nat_tests)

pub name_token : (name rest : List ℕ) → is_name name ≡ true → IsBreak rest
    → tokens (name ++ rest) ≡ Name name ∷ tokens rest
name_token [] rest h stops = absurd (cc)
name_token (x ∷ o) rest h stops =
    let k = and_parts (is_ascii_alphabetic x) (list_all is_name_byte (x ∷ o))
    (and_parts (nat_le (length (x ∷ o)) 16)
    (is_ascii_alphabetic x && list_all is_name_byte (x ∷ o)) h).1 in
    let facts = letter_facts x k.0 in
    let split = whole is_name_byte (x ∷ o) rest k.1 (stops_name rest stops) in
    let t : token_of (x ∷ o) ≡ Name (x ∷ o) = rw (facts.0, k.0) refl in
    counted_piece is_name_byte x (o ++ rest) (λ b. rw (facts.0, k.0) refl) facts.2 facts.1
    ∙ ap (λ (l : List ℕ). token_of l
    ∷ tokens (drop (prefix_len is_name_byte ((x ∷ o) ++ rest)) ((x ∷ o) ++ rest))) split.0
    ∙ ap (λ (l : List ℕ). token_of (x ∷ o) ∷ tokens l) split.1
    ∙ ap (λ (t : Token). t ∷ tokens rest) t

pub literal_token : (ds rest : List ℕ) (n : ℕ) → AreDigitsOf ds n → IsBreak rest
    → tokens (ds ++ rest) ≡ Literal n ∷ tokens rest
literal_token [] rest n h stops = absurd (let k = h.some in omega arith)
literal_token (x ∷ o) rest n h stops =
    let digit = (and_parts (is_ascii_digit x) (list_all is_ascii_digit o) h.digits).0 in
    let split = whole is_ascii_digit (x ∷ o) rest h.digits (stops_digit rest stops) in
    let few : nat_lt 18 (length (x ∷ o)) ≡ false = le-ltb _ _ h.few in
    let t : token_of (x ∷ o) ≡ Literal n = rw (digit, few) (ap Literal h.is) in
    counted_piece is_ascii_digit x (o ++ rest) (λ b. rw (digit) refl) digit (digit_facts x digit)
    ∙ ap (λ (l : List ℕ). token_of l
    ∷ tokens (drop (prefix_len is_ascii_digit ((x ∷ o) ++ rest)) ((x ∷ o) ++ rest))) split.0
    ∙ ap (λ (l : List ℕ). token_of (x ∷ o) ∷ tokens l) split.1
    ∙ ap (λ (t : Token). t ∷ tokens rest) t

-- a sign stands alone
sign_token : (b : ℕ) (rest : List ℕ) → is_blank b ≡ false → is_ascii_digit b ≡ false
    → is_ascii_alphabetic b ≡ false → tokens (b ∷ rest) ≡ sign_of b ∷ tokens rest
sign_token b rest blank digit letter =
    let t : token_of (b ∷ []) ≡ sign_of b = rw (digit, letter) refl in
    one_piece b rest blank ∙ ap (λ (n : ℕ). token_of (b ∷ take n rest) ∷ tokens (drop n rest))
    (nothing_goes b rest digit letter) ∙ ap (λ (t : Token). t ∷ tokens rest) t

pub times_token : (rest : List ℕ) → tokens (42 ∷ rest) ≡ Times ∷ tokens rest
times_token rest = sign_token 42 rest refl refl refl

pub open_token : (rest : List ℕ) → tokens (91 ∷ rest) ≡ Open ∷ tokens rest
open_token rest = sign_token 91 rest refl refl refl

pub close_token : (rest : List ℕ) → tokens (93 ∷ rest) ≡ Close ∷ tokens rest
close_token rest = sign_token 93 rest refl refl refl

pub plus_token : (rest : List ℕ) → tokens (32 ∷ 43 ∷ 32 ∷ rest) ≡ Plus ∷ tokens rest
unfolding tokens pieces
plus_token rest = refl

-- a space is passed over
pub space_token : (rest : List ℕ) → tokens (32 ∷ rest) ≡ tokens rest
unfolding tokens pieces
space_token rest = refl

pub nothing : tokens [] ≡ []
unfolding tokens pieces
nothing = refl
