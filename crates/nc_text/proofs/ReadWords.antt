-- What is read as a word or a polynomial may stand in a text.
-- Words have at most 255 letters (`word_reads`), and polynomials are in normal form (`poly_reads`).
use Rattle.nc_algebra.proofs.NormalForms.{normal_form_listed, normal_form_normal}
use Rattle.nc_algebra.specs.Alphabets.{Alphabet, AreTextWords, IsLetterIn, IsTextPolynomial, IsTextWord, IsWordIn, letter_at}
use Rattle.nc_algebra.specs.Polynomials.{Polynomial, normal_form}
use Rattle.nc_algebra.specs.Words.{Letter, Word}
use Rattle.nc_tokens.proofs.Steps.{on_any, on_bind, on_choice}
use Rattle.nc_text.specs.Reading.{after_factor, after_term, factor_at, factors_at, letter_of, lengthened, poly_at, sum_at, term_at, terms_at, word_at, word_behind}
use Rattle.nc_tokens.specs.Wanted.{exponent_at, name_at, sign_at}
use Rattle.nc_tokens.specs.Tokens.{Literal, Minus, Plus, Times, Token}
use Rattle.nc_tokens.specs.declared.fault.Kind.{Kind}
use Rattle.nc_tokens.specs.declared.fault.Kind.TheVariants.{LongWord, UnknownName}
use Rattle.std.proofs.Common.{All, Bool, Err, List, None, Ok, IfOk, Option, Result, Some, [], arith, bytes_eq, false, length, ltb, ok_or, position, refl, replicate, subst, suc, true, zero, ℕ, ◌++◌, ◌+◌, ◌<◌, ◌∷◌, ◌≡◌}
use Rattle.std.proofs.lemmas.Bool.{ltb-false}
use Rattle.std.proofs.lemmas.List.Elements.{All-append, All-cons, All-from_recursion, All-nil, All-replicate, recursion_from_All}
use Rattle.std.proofs.lemmas.List.Quantifiers.{position-Some}
use Rattle.std.proofs.lemmas.List.{length-append, length-replicate}

letter_reads : (names : List (List ℕ)) (name : List ℕ)
    → IfOk (letter_of names name) (λ l. l < length names)
letter_reads names name = by_place (position (λ n. bytes_eq n name) names) refl
  where
    by_place : (o : Option ℕ) → position (λ n. bytes_eq n name) names ≡ o
        → IfOk (ok_or {E = Kind} o UnknownName) (λ l. l < length names)
    by_place None e = tt
    by_place (Some l) e = (position-Some (λ n. bytes_eq n name) names l [] e).0

lengthened_reads : (a : Alphabet) (w : Word) (x : Letter) (k : ℕ) → IsWordIn a w → IsLetterIn a x
    → IfOk (lengthened w x k) (λ v. IsTextWord a v)
lengthened_reads a w x k below letter =
    on_choice (λ v. IsTextWord a v) (ltb 255 (length w + k)) (Err LongWord)
    (Ok (w ++ replicate k x)) (λ long. tt) (λ short. record {
      letters =
          All-append (IsLetterIn a) w (replicate k x) below
          (All-replicate (IsLetterIn a) k x letter);
      short = (let low = ltb-false _ _ short in
          omega (arith, length-append w (replicate k x), length-replicate k x));
    })

factor_reads : (a : Alphabet) (w : Word) (ts : List Token) → IsWordIn a w
    → IfOk (factor_at a w ts) (λ x. IsTextWord a x.0)
unfolding factor_at
factor_reads a w ts below =
    on_bind _ _ (name_at ts) _ (on_any (name_at ts))
    (λ name _. on_bind _ _ (letter_of a.names name.0) _ (letter_reads a.names name.0)
    (λ letter less. on_bind _ _ (exponent_at name.1) _ (on_any (exponent_at name.1))
    (λ exponent _.
    on_bind _ _ (lengthened w (letter_at a letter) exponent.0) _
    (lengthened_reads a w (letter_at a letter) exponent.0 below (less, refl))
    (λ longer text. text))))

-- ---- words

after_factor_reads : (a : Alphabet) (further : Word → List Token → Result (Word × List Token) Kind)
    (w : Word) (ts : List Token) → ((ts : List Token) → IsWordIn a w
    → IfOk (further w ts) (λ x. IsTextWord a x.0)) → IsTextWord a w
    → IfOk (after_factor further w ts) (λ x. IsTextWord a x.0)
after_factor_reads a further w [] more text = text
after_factor_reads a further w (Times ∷ rest) more text = more rest text.letters
after_factor_reads a further w (t ∷ rest) more text = text

factors_read : (m : ℕ) (a : Alphabet) (w : Word) (ts : List Token) → IsWordIn a w
    → IfOk (factors_at m a w ts) (λ x. IsTextWord a x.0)
unfolding factors_at
factors_read zero a w ts below = tt
factors_read (suc m) a w ts below =
    on_bind _ _ (factor_at a w ts) _ (factor_reads a w ts below)
    (λ factor text. after_factor_reads a (factors_at m a) factor.0 factor.1
    (λ rest h. factors_read m a factor.0 rest h) text)

no_letter : (a : Alphabet) → IsWordIn a []
no_letter a = All-nil (IsLetterIn a)

pub empty_word : (a : Alphabet) → IsTextWord a []
empty_word a = record { letters = no_letter a; short = omega arith }

pub word_reads : (a : Alphabet) (ts : List Token) → IfOk (word_at a ts) (λ x. IsTextWord a x.0)
word_reads a ts = factors_read (length ts) a [] ts (no_letter a)

-- ---- polynomials

behind_reads : (a : Alphabet) (ts : List Token) → IfOk (word_behind a ts) (λ x. IsTextWord a x.0)
unfolding word_behind
behind_reads a [] = empty_word a
behind_reads a (Times ∷ rest) = word_reads a rest
behind_reads a (t ∷ rest) = empty_word a

term_reads : (p : ℕ) (a : Alphabet) (negative : Bool) (ts : List Token)
    → IfOk (term_at p a negative ts) (λ x. IsTextWord a x.0.key)
unfolding term_at
term_reads p a negative [] = on_bind _ _ (word_at a []) _ (word_reads a []) (λ word text. text)
term_reads p a negative (Literal n ∷ rest) =
    on_bind _ _ (word_behind a rest) _ (behind_reads a rest) (λ word text. text)
term_reads p a negative (t ∷ rest) =
    on_bind _ _ (word_at a (t ∷ rest)) _ (word_reads a (t ∷ rest)) (λ word text. text)

-- the property of each word of a polynomial
abbrev Words : (Word → Type 0) → Polynomial → Type 0
Words P f = All (λ t. P t.key) f

after_term_reads : (P : Polynomial → Type 0) (further : Bool → List Token → Result Polynomial Kind)
    (ts : List Token) → ((negative : Bool) (ts : List Token) → IfOk (further negative ts) P) → P []
    → IfOk (after_term further ts) P
after_term_reads P further [] more none = none
after_term_reads P further (Plus ∷ rest) more none = more false rest
after_term_reads P further (Minus ∷ rest) more none = more true rest
after_term_reads P further (t ∷ rest) more none = tt

terms_read : (m p : ℕ) (a : Alphabet) (negative : Bool) (ts : List Token)
    → IfOk (terms_at m p a negative ts) (λ f. AreTextWords a f)
unfolding terms_at
terms_read zero p a negative ts = tt
terms_read (suc m) p a negative ts =
    on_bind _ _ (term_at p a negative ts) _ (term_reads p a negative ts)
    (λ term text. on_bind _ _ (after_term (terms_at m p a) term.1) _
    (after_term_reads (AreTextWords a) (terms_at m p a) term.1
    (λ negative rest. terms_read m p a negative rest) (All-nil (λ t. IsTextWord a t.key)))
    (λ others texts. All-cons (λ t. IsTextWord a t.key) term.0 others text texts))

sum_reads : (p : ℕ) (a : Alphabet) (ts : List Token) → IfOk (sum_at p a ts) (λ f. AreTextWords a f)
sum_reads p a ts = terms_read (length (sign_at ts).1) p a (sign_at ts).0 (sign_at ts).1

pub poly_reads : (p : ℕ) (a : Alphabet) (ts : List Token) → 0 < p
    → IfOk (poly_at p a ts) (λ f. IsTextPolynomial a p f)
unfolding poly_at
poly_reads p a ts some =
    on_bind _ _ (sum_at p a ts) _ (sum_reads p a ts)
    (λ f texts. record {
      normal = normal_form_normal p f some;
      words = All-from_recursion (λ t. IsTextWord a t.key) (normal_form p f)
          (normal_form_listed (IsTextWord a) p f
          (recursion_from_All (λ t. IsTextWord a t.key) f texts));
    })

-- so a word that was read is one
pub read_is_text : (a : Alphabet) (ts rest : List Token) (w : Word) → word_at a ts ≡ Ok (w, rest)
    → IsTextWord a w
read_is_text a ts rest w e = subst (λ r. IfOk r (λ x. IsTextWord a x.0)) e (word_reads a ts)
