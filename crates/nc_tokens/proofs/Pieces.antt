-- How a line is cut into pieces.
-- The definition grows pieces byte by byte; the code counts how many bytes belong together.
-- `skip_blanks` and `piece_goes` relate the two. The four cases of the next token are `token_none`,
-- `token_digits`, `token_name` and `token_sign`.
use Rattle.std.proofs.Common.{◌≡◌, ℕ, suc, get_or, ◌-◌, ◌+◌, ◌<◌, ◌≤◌, Bool, true, false, cond, List, [], ◌∷◌, ◌++◌, length, map, take, drop, refl, sym, ap, subst, ◌∙◌, append_assoc, arith}
use Rattle.std.specs.List.{prefix_len}
use Rattle.std.proofs.lemmas.List.{append-nil, take_all}
use Rattle.std.specs.Char.{is_ascii_digit, is_ascii_alphabetic}
use Rattle.nc_algebra.specs.Alphabets.{is_name_byte}
use Rattle.std.proofs.lemmas.Bool.Decides.{nat_tests}
use Rattle.nc_tokens.specs.Tokens.{Name, Token, goes_on, is_blank, literal_of, pieces, sign_of, token_of, tokens}

-- a count that has one more
counted : (n : ℕ) (b : ℕ) (bs : List ℕ) → (take (1 + n) (b ∷ bs) ≡ b ∷ take n bs)
    × (drop (1 + n) (b ∷ bs) ≡ drop n bs)
counted n b bs = let e : 1 + n ≡ suc n = omega arith in (rw e refl, rw e refl)

pub skip_blanks : (bs : List ℕ) → pieces [] (drop (prefix_len is_blank bs) bs) ≡ pieces [] bs
unfolding pieces
skip_blanks [] = refl
skip_blanks (b ∷ bs) = by_blank (is_blank b) refl (skip_blanks bs)
  where
    by_blank : (t : Bool) → is_blank b ≡ t
        → pieces [] (drop (prefix_len is_blank bs) bs) ≡ pieces [] bs
        → pieces [] (drop (cond (is_blank b) (1 + prefix_len is_blank bs) 0) (b ∷ bs))
        ≡ cond (is_blank b) (pieces [] bs) (pieces (b ∷ []) bs)
    by_blank true e again = rw (e, (counted (prefix_len is_blank bs) b bs).1) again
    by_blank false e again = rw (e) (rw e refl)

abbrev front_of : ℕ → List ℕ → List ℕ
front_of f bs = take (prefix_len (goes_on (f ∷ [])) bs) bs

abbrev behind : ℕ → List ℕ → List ℕ
behind f bs = drop (prefix_len (goes_on (f ∷ [])) bs) bs

-- a piece goes on as long as bytes go on with it
pub piece_goes : (f : ℕ) (o bs : List ℕ)
    → pieces (f ∷ o) bs ≡ ((f ∷ o) ++ front_of f bs) ∷ pieces [] (behind f bs)
unfolding pieces
piece_goes f o [] = ap (λ (x : List ℕ). (f ∷ x) ∷ []) (sym (append-nil o))
piece_goes f o (b ∷ bs) = by_byte (goes_on (f ∷ []) b) refl (piece_goes f (o ++ b ∷ []) bs)
  where
    by_byte : (t : Bool) → goes_on (f ∷ []) b ≡ t
        → pieces (f ∷ (o ++ b ∷ [])) bs ≡ ((f ∷ (o ++ b ∷ [])) ++ front_of f bs) ∷ pieces []
        (behind f bs)
        → cond (goes_on (f ∷ []) b) (pieces (f ∷ (o ++ b ∷ [])) bs) ((f ∷ o) ∷ pieces [] (b ∷ bs))
        ≡ ((f ∷ o) ++ take (cond (goes_on (f ∷ []) b) (1 + prefix_len (goes_on (f ∷ [])) bs) 0)
        (b ∷ bs)) ∷ pieces [] (drop (cond (goes_on (f ∷ []) b)
        (1 + prefix_len (goes_on (f ∷ [])) bs) 0) (b ∷ bs))
    by_byte true e again =
        let k = counted (prefix_len (goes_on (f ∷ [])) bs) b bs in
        rw (e, k.0, k.1) (again ∙ ap (λ (x : List ℕ). (f ∷ x) ∷ pieces [] (behind f bs))
        (append_assoc o (b ∷ []) (front_of f bs)))
    by_byte false e again =
        rw (e) (ap (λ (x : List ℕ). (f ∷ x) ∷ pieces [] (b ∷ bs)) (sym (append-nil o)))

-- a token that is one piece
pub one_piece : (f : ℕ) (bs : List ℕ) → is_blank f ≡ false
    → tokens (f ∷ bs) ≡ token_of (f ∷ front_of f bs) ∷ tokens (behind f bs)
unfolding tokens pieces
one_piece f bs e = rw (e) (ap (map token_of) (piece_goes f [] bs))

abbrev same_tests : (p q : ℕ → Bool) → Type 0
same_tests p q = (b : ℕ) → p b ≡ q b

same_prefix : (p q : ℕ → Bool) → same_tests p q → (bs : List ℕ) → prefix_len p bs ≡ prefix_len q bs
same_prefix p q same [] = refl
same_prefix p q same (b ∷ bs) = rw (same b, same_prefix p q same bs) refl

-- what a count over the whole piece splits off
pub counted_piece : (p : ℕ → Bool) (f : ℕ) (bs : List ℕ) → same_tests p (goes_on (f ∷ []))
    → p f ≡ true → is_blank f ≡ false
    → tokens (f ∷ bs) ≡ token_of (take (prefix_len p (f ∷ bs)) (f ∷ bs))
    ∷ tokens (drop (prefix_len p (f ∷ bs)) (f ∷ bs))
counted_piece p f bs same passes nonblank =
    let n = same_prefix p (goes_on (f ∷ [])) same bs in
    let k = counted (prefix_len (goes_on (f ∷ [])) bs) f bs in
    rw (passes, n, k.0, k.1) (one_piece f bs nonblank)

-- the byte behind the blanks is none
starts : (bs : List ℕ) (f : ℕ) (xs : List ℕ) → drop (prefix_len is_blank bs) bs ≡ f ∷ xs
    → is_blank f ≡ false
starts [] f xs e = absurd cc
starts (b ∷ bs) f xs e = by_blank (is_blank b) refl (starts bs f xs) e
  where
    by_blank : (t : Bool) → is_blank b ≡ t
        → (drop (prefix_len is_blank bs) bs ≡ f ∷ xs → is_blank f ≡ false)
        → drop (cond (is_blank b) (1 + prefix_len is_blank bs) 0) (b ∷ bs) ≡ f ∷ xs
        → is_blank f ≡ false
    by_blank true t again h = again (sym (counted (prefix_len is_blank bs) b bs).1 ∙ (rw t at h))
    by_blank false t again h =
        let same : b ∷ bs ≡ f ∷ xs =
        rw t at h in let k : b ≡ f = cc in subst (λ (x : ℕ). is_blank x ≡ false) k t

abbrev pub after_blanks : List ℕ → List ℕ
after_blanks bs = drop (prefix_len is_blank bs) bs

same_tokens : (bs : List ℕ) → tokens (after_blanks bs) ≡ tokens bs
unfolding tokens
same_tokens bs = ap (map token_of) (skip_blanks bs)

pub token_none : (bs xs : List ℕ) → xs ≡ after_blanks bs → length xs < 1 → tokens bs ≡ []
unfolding tokens pieces
token_none bs [] e short = sym (same_tokens bs) ∙ ap tokens (sym e)
token_none bs (x ∷ xs) e short = absurd (omega arith)

-- a token of the bytes from the first one on that pass a test
token_by : (p : ℕ → Bool) (make : List ℕ → Token) (bs : List ℕ) (x : ℕ) (xs front back : List ℕ)
    → x ∷ xs ≡ after_blanks bs → same_tests p (goes_on (x ∷ [])) → p x ≡ true
    → ((l : List ℕ) → token_of (x ∷ l) ≡ make (x ∷ l))
    → front ≡ take (prefix_len p (x ∷ xs)) (x ∷ xs) → back ≡ drop (prefix_len p (x ∷ xs)) (x ∷ xs)
    → tokens bs ≡ make front ∷ tokens back
token_by p make bs x xs front back e same passes makes is_front is_back =
    let one = counted_piece p x xs same passes (starts bs x xs (sym e)) in
    let k : take (prefix_len p (x ∷ xs)) (x ∷ xs) ≡ x ∷ take (prefix_len p xs) xs =
    rw passes ((counted (prefix_len p xs) x xs).0) in
    let rest = tokens (drop (prefix_len p (x ∷ xs)) (x ∷ xs)) in
    sym (same_tokens bs) ∙ ap tokens (sym e) ∙ one ∙ ap (λ (l : List ℕ). token_of l ∷ rest) k
    ∙ ap (λ (t : Token). t ∷ rest) (makes (take (prefix_len p xs) xs))
    ∙ ap (λ (l : List ℕ). make l ∷ rest) (sym k ∙ sym is_front)
    ∙ ap (λ (l : List ℕ). make front ∷ tokens l) (sym is_back)

pub token_digits : (bs xs front back : List ℕ) → xs ≡ after_blanks bs → 1 ≤ length xs
    → is_ascii_digit (get_or xs 0 0) ≡ true
    → front ≡ take (prefix_len is_ascii_digit xs) xs → back ≡ drop (prefix_len is_ascii_digit xs) xs
    → tokens bs ≡ literal_of front ∷ tokens back
token_digits bs [] front back e long digit is_front is_back = absurd (omega arith)
token_digits bs (x ∷ xs) front back e long digit is_front is_back =
    token_by is_ascii_digit literal_of bs x xs front back e (λ b. rw digit refl) digit
    (λ l. rw digit refl) is_front is_back

no_digit : (x : ℕ) → is_ascii_alphabetic x ≡ true → is_ascii_digit x ≡ false
no_digit x e = grind (arith, nat_tests)

name_first : (x : ℕ) → is_ascii_alphabetic x ≡ true → is_name_byte x ≡ true
name_first x e = grind (arith, nat_tests)

pub token_name : (bs xs front back : List ℕ) → xs ≡ after_blanks bs → 1 ≤ length xs
    → is_ascii_alphabetic (get_or xs 0 0) ≡ true
    → front ≡ take (prefix_len is_name_byte xs) xs → back ≡ drop (prefix_len is_name_byte xs) xs
    → tokens bs ≡ Name front ∷ tokens back
token_name bs [] front back e long letter is_front is_back = absurd (omega arith)
token_name bs (x ∷ xs) front back e long letter is_front is_back =
    token_by is_name_byte Name bs x xs front back e (λ b. rw (no_digit x letter, letter) refl)
    (name_first x letter) (λ l. rw (no_digit x letter, letter) refl) is_front is_back

pub nothing_goes : (x : ℕ) (xs : List ℕ) → is_ascii_digit x ≡ false → is_ascii_alphabetic x ≡ false
    → prefix_len (goes_on (x ∷ [])) xs ≡ 0
nothing_goes x [] d l = refl
nothing_goes x (y ∷ ys) d l = rw (d, l) refl

pub token_sign : (bs xs rest : List ℕ) → xs ≡ after_blanks bs → 1 ≤ length xs
    → is_ascii_digit (get_or xs 0 0) ≡ false → is_ascii_alphabetic (get_or xs 0 0) ≡ false
    → rest ≡ take (length xs - 1) (drop 1 xs) → tokens bs ≡ sign_of (get_or xs 0 0) ∷ tokens rest
token_sign bs [] rest e long digit letter is_rest = absurd (omega arith)
token_sign bs (x ∷ xs) rest e long digit letter is_rest =
    let one = one_piece x xs (starts bs x xs (sym e)) in
    let none = nothing_goes x xs digit letter in
    let t : token_of (x ∷ []) ≡ sign_of x = rw (digit, letter) refl in
    let all : xs ≡ rest = sym (is_rest ∙ take_all _ _ (omega arith)) in
    let two : tokens (x ∷ xs) ≡ token_of (x ∷ []) ∷ tokens xs = one ∙ rw (none) refl in
    sym (same_tokens bs) ∙ ap tokens (sym e) ∙ two ∙ ap (λ (t : Token). t ∷ tokens xs) t
    ∙ ap (λ (l : List ℕ). sign_of x ∷ tokens l) all
