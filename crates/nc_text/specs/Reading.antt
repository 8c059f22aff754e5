-- Reading words and polynomials from the tokens of a line, up to the first fault.
--
-- A word is one or more factors with `*` between them; a factor is a name, or a name with an
-- exponent. A term is a literal, a literal times a word, or a word. A polynomial is terms with `+`
-- or `-` between them, and a sign may stand before the first. Words in capitals name the parts of
-- the grammar in docs/FORMATS.md.
--
-- What is read of a polynomial is its normal form, so terms may come in any order, and equal words
-- several times. The limit of 255 letters holds for each word as it is written, even if its term
-- cancels. Definitions that would not end by themselves take the greatest number of factors or
-- terms, which is the number of tokens.
use Rattle.nc_algebra.specs.Alphabets.{Alphabet, letter_at}
use Rattle.nc_algebra.specs.Polynomials.{Polynomial, normal_form}
use Rattle.nc_algebra.specs.Sums.{Term}
use Rattle.nc_algebra.specs.Words.{Letter, Word}
use Rattle.nc_tokens.specs.declared.fault.Kind.{Kind}
use Rattle.nc_tokens.specs.declared.fault.Kind.TheVariants.{LongWord, UnknownName}
use Rattle.nc_tokens.specs.Wanted.{exponent_at, misplaced, name_at, sign_at, ◌>>=◌}
use Rattle.nc_tokens.specs.Tokens.{Literal, Minus, Plus, Times, Token}
use Rattle.std.specs.Prelude.{Bool, Err, List, Ok, Result, [], false, if◌then◌else◌, length, nat_lt, ok_or, position, replicate, suc, true, zero, ℕ, ◌%◌, ◌++◌, ◌+◌, ◌-◌, ◌∷◌}
use Rattle.std.specs.Str.{bytes_eq}

-- ---- words

-- the number of the letter that has a name
abbrev pub letter_of : List (List ℕ) → List ℕ → Result ℕ Kind
letter_of names name = ok_or (position (λ n. bytes_eq n name) names) UnknownName

-- a word with a letter n times behind it
abbrev pub lengthened : Word → Letter → ℕ → Result Word Kind
lengthened word letter n =
    if nat_lt 255 (length word + n) then Err LongWord else Ok (word ++ replicate n letter)

-- FACTOR, behind the word so far: a name, or a name with an exponent
unfoldable pub factor_at : Alphabet → Word → List Token → Result (Word × List Token) Kind
factor_at a word ts = do
  name ← name_at ts
  letter ← letter_of a.names name.0
  exponent ← exponent_at name.1
  longer ← lengthened word (letter_at a letter) exponent.0
  Ok (longer, exponent.1)

-- what follows a factor: with `*` a further factor, else nothing of the word
abbrev pub after_factor : (Word → List Token → Result (Word × List Token) Kind) → Word → List Token
    → Result (Word × List Token) Kind
after_factor further word (Times ∷ rest) = further word rest
after_factor further word ts = Ok (word, ts)

-- FACTOR { * FACTOR }, behind the word so far, of at most n factors
unfoldable pub factors_at : ℕ → Alphabet → Word → List Token → Result (Word × List Token) Kind
factors_at zero a word ts = Err (misplaced ts)
factors_at (suc n) a word ts = do
  factor ← factor_at a word ts
  after_factor (factors_at n a) factor.0 factor.1

-- WORD: no more factors than tokens
abbrev pub word_at : Alphabet → List Token → Result (Word × List Token) Kind
word_at a ts = factors_at (length ts) a [] ts

-- ---- polynomials

-- a literal as a coefficient modulo the prime, with its sign
abbrev pub residue_of : ℕ → Bool → ℕ → ℕ
residue_of p negative n = if negative then (p - n % p) % p else n % p

-- what stands behind the literal of a term: `*` and a word, or nothing
unfoldable pub word_behind : Alphabet → List Token → Result (Word × List Token) Kind
word_behind a (Times ∷ rest) = word_at a rest
word_behind a ts = Ok ([], ts)

-- TERM, with the sign before it: a literal, a literal times a word, or a word
unfoldable pub term_at : ℕ → Alphabet → Bool → List Token → Result (Term Word × List Token) Kind
term_at p a negative (Literal n ∷ rest) = do
  word ← word_behind a rest
  Ok (record { coefficient = residue_of p negative n; key = word.0 }, word.1)
term_at p a negative ts = do
  word ← word_at a ts
  Ok (record { coefficient = residue_of p negative 1; key = word.0 }, word.1)

-- what follows a term: the end of the line, or a sign and further terms
abbrev pub after_term : (Bool → List Token → Result Polynomial Kind) → List Token
    → Result Polynomial Kind
after_term further [] = Ok []
after_term further (Plus ∷ rest) = further false rest
after_term further (Minus ∷ rest) = further true rest
after_term further ts = Err (misplaced ts)

-- TERM { SIGN TERM } of at most n terms, to the end of the line
unfoldable pub terms_at : ℕ → ℕ → Alphabet → Bool → List Token → Result Polynomial Kind
terms_at zero p a negative ts = Err (misplaced ts)
terms_at (suc n) p a negative ts = do
  term ← term_at p a negative ts
  others ← after_term (terms_at n p a) term.1
  Ok (term.0 ∷ others)

-- the terms of POLY as they are written, to the end of the line: no more terms than tokens
abbrev pub sum_at : ℕ → Alphabet → List Token → Result Polynomial Kind
sum_at p a ts = terms_at (length (sign_at ts).1) p a (sign_at ts).0 (sign_at ts).1

-- POLY: the normal form of its terms
unfoldable pub poly_at : ℕ → Alphabet → List Token → Result Polynomial Kind
poly_at p a ts = sum_at p a ts >>= λ f. Ok (normal_form p f)
