-- What is printed of a word or a polynomial is read again.
-- First which tokens a printed word or polynomial has (`word_tokens`, `terms_tokens`), then what
-- these are read as (`word_again`, `terms_again`). `Ends` says what may follow a word or a term. A
-- printed polynomial is in normal form, so the normal form of its terms is itself (`poly_again`).
use Rattle.nc_algebra.proofs.NormalForms.{normal_form-normal}
use Rattle.nc_algebra.specs.Alphabets.{Alphabet, AreTextWords, IsLetterIn, IsTextPolynomial, IsTextWord}
use Rattle.nc_algebra.specs.Polynomials.{AreResidues, IsDescending, Polynomial, normal_form, with_term}
use Rattle.nc_algebra.specs.Sums.{Term}
use Rattle.nc_algebra.specs.Words.{Letter, Word}
use Rattle.nc_tokens.proofs.Digits.{decimal_is}
use Rattle.nc_text.proofs.Names.{AreNames}
use Rattle.nc_tokens.proofs.PrintedTokens.{IsBreak, literal_token, name_token, nothing, plus_token, times_token}
use Rattle.nc_print.specs.Printing.{coefficient_and_word, name_of, poly_text, term_text, word_text}
use Rattle.nc_text.specs.Reading.{after_factor, factor_at, factors_at, poly_at, sum_at, term_at, terms_at, word_at, word_behind}
use Rattle.nc_tokens.specs.Wanted.{exponent_at, name_at, sign_at, ◌>>=◌}
use Rattle.nc_tokens.specs.Tokens.{Literal, Name, Plus, Times, Token, pieces, tokens}
use Rattle.nc_tokens.specs.declared.fault.Kind.{Kind}
use Rattle.std.proofs.Common.{Bool, List, Ok, Result, [], ap, arith, cond, decimal, eqb, false, flat_map, length, ltb, map, refl, suc, sym, true, zero, ℕ, ◌%◌, ◌++◌, ◌+◌, ◌<◌, ◌∙◌, ◌∷◌, ◌≡◌, ◌≤◌, append_assoc}
use Rattle.std.proofs.Math.Nat.{mod-eq_of_lt}
use Rattle.std.proofs.lemmas.Bool.{eqb-true, le-ltb}
use Rattle.std.proofs.lemmas.List.Elements.{recursion_from_All, All-head, All-tail}
use Rattle.std.proofs.lemmas.List.{length-append}
use Rattle.std.specs.List.{AllByRecursion}

-- ---- what may be printed

-- the letters of a word are letters of the alphabet
abbrev pub AreLetters : Alphabet → Word → Type 0
AreLetters a w = AllByRecursion (IsLetterIn a) w

pub are_letters : (a : Alphabet) (w : Word) → IsTextWord a w → AreLetters a w
are_letters a w h = recursion_from_All (IsLetterIn a) w h.letters

-- a term that has a printed form
pub record IsPrinted (p : ℕ) (a : Alphabet) (t : Term Word) : Type 0 where
  pub some : 0 < t.coefficient
  pub small : t.coefficient < p
  pub short : length t.key ≤ 255
  pub letters : AreLetters a t.key

abbrev pub ArePrinted : ℕ → Alphabet → Polynomial → Type 0
ArePrinted p a f = AllByRecursion (IsPrinted p a) f

are_printed : (p : ℕ) (a : Alphabet) (f : Polynomial) → IsDescending f → AreResidues p f
    → AreTextWords a f → ArePrinted p a f
are_printed p a [] descending residues words = tt
are_printed p a (t ∷ f) descending residues words =
    let word = All-head (λ t. IsTextWord a t.key) t f words in (
      record {
        some = descending.0;
        small = All-head (λ t. t.coefficient < p) t f residues;
        short = word.short;
        letters = are_letters a t.key word;
      },
      are_printed p a f descending.2 (All-tail (λ t. t.coefficient < p) t f residues)
          (All-tail (λ t. IsTextWord a t.key) t f words),
    )

pub text_is_printed : (p : ℕ) (a : Alphabet) (f : Polynomial) → IsTextPolynomial a p f
    → ArePrinted p a f
text_is_printed p a f h = are_printed p a f h.normal.0 h.normal.1 h.words

-- ---- the tokens of printed words, terms and polynomials, with those that follow

abbrev pub word_rest : List (List ℕ) → Word → List Token → List Token
word_rest names [] rest = rest
word_rest names (x ∷ w) rest = Times ∷ Name (name_of names x) ∷ word_rest names w rest

abbrev term_tokens : List (List ℕ) → ℕ → Word → List Token → List Token
term_tokens names c [] rest = Literal c ∷ rest
term_tokens names c (x ∷ w) rest =
    cond (eqb c 1) (Name (name_of names x) ∷ word_rest names w rest)
    (Literal c ∷ Times ∷ Name (name_of names x) ∷ word_rest names w rest)

abbrev terms_rest : List (List ℕ) → Polynomial → List Token
terms_rest names [] = []
terms_rest names (t ∷ f) = Plus ∷ term_tokens names t.coefficient t.key (terms_rest names f)

-- ---- reading those tokens

-- what ends a word and a term
pub record Ends (rest : List Token) : Type 0 where
  pub exponent : exponent_at rest ≡ Ok (1, rest)
  pub factor : (further : Word → List Token → Result (Word × List Token) Kind) (w : Word)
      → after_factor further w rest ≡ Ok (w, rest)
  pub behind : (a : Alphabet) → word_behind a rest ≡ Ok ([], rest)

pub ends_nothing : Ends []
unfolding exponent_at word_behind
ends_nothing = record { exponent = refl; factor = λ further w. refl; behind = λ a. refl }

ends_plus : (rest : List Token) → Ends (Plus ∷ rest)
unfolding exponent_at word_behind
ends_plus rest = record { exponent = refl; factor = λ further w. refl; behind = λ a. refl }

terms_end : (names : List (List ℕ)) (f : Polynomial) → Ends (terms_rest names f)
terms_end names [] = ends_nothing
terms_end names (t ∷ f) = ends_plus (term_tokens names t.coefficient t.key (terms_rest names f))

exponent_before : (names : List (List ℕ)) (w : Word) (rest : List Token) → Ends rest
    → exponent_at (word_rest names w rest) ≡ Ok (1, word_rest names w rest)
unfolding exponent_at
exponent_before names [] rest h = h.exponent
exponent_before names (x ∷ w) rest h = refl

one_factor : (a : Alphabet) (v : Word) (x : Letter) (w : Word) (rest : List Token) → AreNames a
    → IsLetterIn a x → length v + 1 ≤ 255 → Ends rest
    → factor_at a v (Name (name_of a.names x) ∷ word_rest a.names w rest) ≡ Ok (
      v ++ x ∷ [],
      word_rest a.names w rest,
    )
unfolding factor_at name_at
one_factor a v x w rest ns below short h =
    let few : ltb 255 (length v + 1) ≡ false = le-ltb _ _ short in
    rw (ns.apart x below, exponent_before a.names w rest h, few)
    (ap (λ (y : Letter). Ok (v ++ y ∷ [], word_rest a.names w rest)) (sym below.1))

factors_again : (n : ℕ) (a : Alphabet) (v : Word) (x : Letter) (w : Word) (rest : List Token)
    → length w < n → AreNames a → IsLetterIn a x → AreLetters a w
    → length v + 1 + length w ≤ 255 → Ends rest
    → factors_at n a v (Name (name_of a.names x) ∷ word_rest a.names w rest) ≡ Ok (
      v ++ x ∷ w,
      rest,
    )
unfolding factors_at
factors_again zero a v x w rest enough ns below all short h = absurd (omega arith)
factors_again (suc n) a v x [] rest enough ns below all short h =
    let one = one_factor a v x [] rest ns below (omega arith) h in
    rw (one) (h.factor (factors_at n a) (v ++ x ∷ []))
factors_again (suc n) a v x (y ∷ w) rest enough ns below all short h =
    let one = one_factor a v x (y ∷ w) rest ns below (omega arith) h in
    let again =
    factors_again n a (v ++ x ∷ []) y w rest (omega arith) ns all.0 all.1
    (omega (arith, length-append v (x ∷ []))) h in
    rw (one) (again ∙ ap (λ (u : Word). Ok (u, rest)) (append_assoc v (x ∷ []) (y ∷ w)))

length_rest : (names : List (List ℕ)) (w : Word) (rest : List Token)
    → length w + length rest ≤ length (word_rest names w rest)
length_rest names [] rest = omega arith
length_rest names (x ∷ w) rest = omega (arith, length_rest names w rest)

pub word_again : (a : Alphabet) (x : Letter) (w : Word) (rest : List Token) → AreNames a
    → AreLetters a (x ∷ w) → length (x ∷ w) ≤ 255 → Ends rest
    → word_at a (Name (name_of a.names x) ∷ word_rest a.names w rest) ≡ Ok (x ∷ w, rest)
word_again a x w rest ns all short h =
    factors_again (length (Name (name_of a.names x) ∷ word_rest a.names w rest)) a [] x w rest
    (omega (arith, length_rest a.names w rest)) ns all.0 all.1 (omega arith) h

term_again : (p : ℕ) (a : Alphabet) (c : ℕ) (w : Word) (rest : List Token) → AreNames a → 0 < c
    → c < p → length w ≤ 255 → AreLetters a w → Ends rest
    → term_at p a false (term_tokens a.names c w rest) ≡ Ok (
      record { coefficient = c; key = w },
      rest,
    )
unfolding term_at word_behind
term_again p a c [] rest ns some small short all h = rw (h.behind a, mod-eq_of_lt small) refl
term_again p a c (x ∷ w) rest ns some small short all h =
    by_one (eqb c 1) refl (word_again a x w rest ns all short h)
  where
    by_one : (b : Bool) → eqb c 1 ≡ b
        → word_at a (Name (name_of a.names x) ∷ word_rest a.names w rest) ≡ Ok (x ∷ w, rest)
        → term_at p a false (cond b (Name (name_of a.names x) ∷ word_rest a.names w rest)
        (Literal c ∷ Times ∷ Name (name_of a.names x) ∷ word_rest a.names w rest))
        ≡ Ok (record { coefficient = c; key = x ∷ w }, rest)
    by_one true e word =
        let one : c ≡ 1 =
        eqb-true c 1 e in let k : 1 % p ≡ c =
        (let low : 1 < p = omega arith in mod-eq_of_lt low ∙ sym one) in
        ap (λ (r : Result (Word × List Token) Kind). r >>= λ word. Ok
        (record { coefficient = 1 % p; key = word.0 }, word.1)) word
        ∙ ap (λ (n : ℕ). Ok (record { coefficient = n; key = x ∷ w }, rest)) k
    by_one false e word =
        ap (λ (r : Result (Word × List Token) Kind). r >>= λ word. Ok
        (record { coefficient = c % p; key = word.0 }, word.1)) word
        ∙ ap (λ (n : ℕ). Ok (record { coefficient = n; key = x ∷ w }, rest))
        (mod-eq_of_lt small)

terms_again : (n p : ℕ) (a : Alphabet) (t : Term Word) (f : Polynomial) → length f < n → AreNames a
    → IsPrinted p a t → ArePrinted p a f
    → terms_at n p a false (term_tokens a.names t.coefficient t.key (terms_rest a.names f))
    ≡ Ok (t ∷ f)
unfolding terms_at
terms_again zero p a t f enough ns first all = absurd (omega arith)
terms_again (suc n) p a t [] enough ns first all =
    let one =
    term_again p a t.coefficient t.key [] ns first.some first.small first.short first.letters
    ends_nothing in
    rw (one) refl
terms_again (suc n) p a t (u ∷ f) enough ns first all =
    let one =
    term_again p a t.coefficient t.key (terms_rest a.names (u ∷ f)) ns first.some first.small
    first.short first.letters (terms_end a.names (u ∷ f)) in
    let again = terms_again n p a u f (omega arith) ns all.0 all.1 in
    rw (one, again) refl

no_sign : (names : List (List ℕ)) (c : ℕ) (w : Word) (rest : List Token)
    → sign_at (term_tokens names c w rest) ≡ (false, term_tokens names c w rest)
unfolding sign_at
no_sign names c [] rest = refl
no_sign names c (x ∷ w) rest = by_one (eqb c 1)
  where
    by_one : (b : Bool) → sign_at (cond b (Name (name_of names x) ∷ word_rest names w rest)
        (Literal c ∷ Times ∷ Name (name_of names x) ∷ word_rest names w rest))
        ≡ (
          false,
          cond b (Name (name_of names x) ∷ word_rest names w rest)
              (Literal c ∷ Times ∷ Name (name_of names x) ∷ word_rest names w rest),
        )
    by_one true = refl
    by_one false = refl

longer : (names : List (List ℕ)) (c : ℕ) (w : Word) (rest : List Token)
    → length rest < length (term_tokens names c w rest)
longer names c [] rest = omega arith
longer names c (x ∷ w) rest = by_one (eqb c 1)
  where
    by_one : (b : Bool) → length rest
        < length (cond b (Name (name_of names x) ∷ word_rest names w rest)
        (Literal c ∷ Times ∷ Name (name_of names x) ∷ word_rest names w rest))
    by_one true = omega (arith, length_rest names w rest)
    by_one false = omega (arith, length_rest names w rest)

many : (names : List (List ℕ)) (f : Polynomial) → length f ≤ length (terms_rest names f)
many names [] = omega arith
many names (t ∷ f) =
    omega (arith, many names f, longer names t.coefficient t.key (terms_rest names f))

-- ---- the tokens of the texts

abbrev tail_text : List (List ℕ) → Word → List ℕ
tail_text names w = flat_map (λ y. (42 ∷ []) ++ y) (map (name_of names) w)

tail_breaks : (names : List (List ℕ)) (w : Word) (bytes : List ℕ) → IsBreak bytes
    → IsBreak (tail_text names w ++ bytes)
tail_breaks names [] bytes h = h
tail_breaks names (x ∷ w) bytes h = (refl, refl)

tail_tokens : (a : Alphabet) (w : Word) (bytes : List ℕ) → AreNames a → AreLetters a w
    → IsBreak bytes → tokens (tail_text a.names w ++ bytes) ≡ word_rest a.names w (tokens bytes)
tail_tokens a [] bytes ns all h = refl
tail_tokens a (x ∷ w) bytes ns all h =
    let rest = tail_text a.names w ++ bytes in
    let regrouped : tail_text a.names (x ∷ w) ++ bytes ≡ 42 ∷ (name_of a.names x ++ rest) =
    ap (λ (l : List ℕ). 42 ∷ l) (append_assoc (name_of a.names x) (tail_text a.names w) bytes)
    in
    ap tokens regrouped ∙ times_token (name_of a.names x ++ rest)
    ∙ ap (λ (ts : List Token). Times ∷ ts)
    (name_token (name_of a.names x) rest (ns.each x all.0) (tail_breaks a.names w bytes h))
    ∙ ap (λ (ts : List Token). Times ∷ Name (name_of a.names x) ∷ ts)
    (tail_tokens a w bytes ns all.1 h)

pub word_tokens : (a : Alphabet) (x : Letter) (w : Word) (bytes : List ℕ) → AreNames a
    → AreLetters a (x ∷ w) → IsBreak bytes
    → tokens (word_text a.names (x ∷ w) ++ bytes) ≡ Name (name_of a.names x) ∷ word_rest a.names w
    (tokens bytes)
word_tokens a x w bytes ns all h =
    ap tokens (append_assoc (name_of a.names x) (tail_text a.names w) bytes)
    ∙ name_token (name_of a.names x) (tail_text a.names w ++ bytes) (ns.each x all.0)
    (tail_breaks a.names w bytes h)
    ∙ ap (λ (ts : List Token). Name (name_of a.names x) ∷ ts) (tail_tokens a w bytes ns all.1 h)

text_tokens : (a : Alphabet) (c : ℕ) (w : Word) (bytes : List ℕ) → c < 65536 → AreNames a
    → AreLetters a w → IsBreak bytes
    → tokens (coefficient_and_word a.names c w ++ bytes) ≡ term_tokens a.names c w (tokens bytes)
text_tokens a c [] bytes small ns all h =
    literal_token (decimal c) bytes c (decimal_is c (omega (arith, small))) h
text_tokens a c (x ∷ w) bytes small ns all h = by_one (eqb c 1) (word_tokens a x w bytes ns all h)
  where
    by_one : (b : Bool) → tokens (word_text a.names (x ∷ w) ++ bytes) ≡ Name (name_of a.names x)
        ∷ word_rest a.names w (tokens bytes)
        → tokens ((cond b [] (decimal c ++ 42 ∷ []) ++ word_text a.names (x ∷ w)) ++ bytes)
        ≡ cond b (Name (name_of a.names x) ∷ word_rest a.names w (tokens bytes))
        (Literal c ∷ Times ∷ Name (name_of a.names x) ∷ word_rest a.names w (tokens bytes))
    by_one true word = word
    by_one false word =
        let regrouped : ((decimal c ++ 42 ∷ []) ++ word_text a.names (x ∷ w)) ++ bytes ≡ decimal c
        ++ (42 ∷ (word_text a.names (x ∷ w) ++ bytes)) =
        append_assoc (decimal c ++ 42 ∷ []) (word_text a.names (x ∷ w)) bytes
        ∙ append_assoc (decimal c) (42 ∷ []) (word_text a.names (x ∷ w) ++ bytes) in
        ap tokens regrouped ∙ literal_token (decimal c) (42 ∷ (word_text a.names (x ∷ w) ++ bytes))
        c (decimal_is c (omega (arith, small))) (refl, refl)
        ∙ ap (λ (ts : List Token). Literal c ∷ ts) (times_token (word_text a.names (x ∷ w) ++ bytes)
        ∙ ap (λ (ts : List Token). Times ∷ ts) word)

abbrev terms_text : List (List ℕ) → Polynomial → List ℕ
terms_text names f = flat_map (λ y. (32 ∷ 43 ∷ 32 ∷ []) ++ y) (map (term_text names) f)

terms_break : (names : List (List ℕ)) (f : Polynomial) → IsBreak (terms_text names f)
terms_break names [] = tt
terms_break names (t ∷ f) = (refl, refl)

terms_tokens : (p : ℕ) (a : Alphabet) (f : Polynomial) → p < 65536 → AreNames a → ArePrinted p a f
    → tokens (terms_text a.names f) ≡ terms_rest a.names f
terms_tokens p a [] small ns all = nothing
terms_tokens p a (t ∷ f) small ns all =
    plus_token (term_text a.names t ++ terms_text a.names f)
    ∙ ap (λ (ts : List Token). Plus ∷ ts)
    (text_tokens a t.coefficient t.key (terms_text a.names f) (let k = all.0.small in
    omega arith) ns all.0.letters (terms_break a.names f)
    ∙ ap (term_tokens a.names t.coefficient t.key) (terms_tokens p a f small ns all.1))

sum_again : (p : ℕ) (a : Alphabet) (t : Term Word) (f : Polynomial) → p < 65536 → AreNames a
    → ArePrinted p a (t ∷ f) → sum_at p a (tokens (poly_text a.names (t ∷ f))) ≡ Ok (t ∷ f)
sum_again p a t f small ns all =
    let rest = terms_rest a.names f in
    let all_tokens = term_tokens a.names t.coefficient t.key rest in
    let bytes : tokens (poly_text a.names (t ∷ f)) ≡ all_tokens =
    text_tokens a t.coefficient t.key (terms_text a.names f) (let k = all.0.small in
    omega arith) ns all.0.letters (terms_break a.names f)
    ∙ ap (term_tokens a.names t.coefficient t.key) (terms_tokens p a f small ns all.1) in
    ap (sum_at p a) bytes ∙ ap (λ (s : Bool × List Token). terms_at (length s.1) p a s.0 s.1)
    (no_sign a.names t.coefficient t.key rest)
    ∙ terms_again (length all_tokens) p a t f
    (omega (arith, many a.names f, longer a.names t.coefficient t.key rest)) ns all.0 all.1

zero_again : (p : ℕ) (a : Alphabet) → 0 < p → poly_at p a (Literal 0 ∷ []) ≡ Ok []
unfolding poly_at sign_at terms_at term_at word_behind normal_form with_term
zero_again p a some = let k : 0 % p ≡ 0 = mod-eq_of_lt some in rw (k, k) refl

zero_text : tokens (48 ∷ []) ≡ Literal 0 ∷ []
unfolding tokens pieces
zero_text = refl

pub poly_again : (p : ℕ) (a : Alphabet) (f : Polynomial) → 0 < p → p < 65536 → AreNames a
    → IsTextPolynomial a p f → poly_at p a (tokens (poly_text a.names f)) ≡ Ok f
unfolding poly_at
poly_again p a [] some small ns text = ap (poly_at p a) zero_text ∙ zero_again p a some
poly_again p a (t ∷ f) some small ns text =
    ap (λ (r : Result Polynomial Kind). r >>= λ g. Ok (normal_form p g))
    (sum_again p a t f small ns (text_is_printed p a (t ∷ f) text))
    ∙ ap (λ (g : Polynomial). Ok g) (normal_form-normal p (t ∷ f) some text.normal)
