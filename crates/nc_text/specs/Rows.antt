-- What stands behind the keyword of each line, up to the end of the line.
--
-- The comments name the keyword of a line, and in capitals the parts of the grammar in
-- docs/FORMATS.md. A literal is tested for its range where it stands, before what is behind it. So
-- the first fault of a line is the leftmost one, except where a whole value is tested: that a
-- generator is not zero, and the reach of a part.
--
-- A part is read behind the reaches of the lines before its own. Their number says which lines it
-- may name, and from them follows its own reach.
use Rattle.nc_algebra.specs.Alphabets.{Alphabet, is_name}
use Rattle.nc_algebra.specs.Certificates.{Factor, Part, part_reach}
use Rattle.nc_algebra.specs.Elements.{Setting}
use Rattle.nc_algebra.specs.Limits.{max_reach}
use Rattle.nc_algebra.specs.Monomials.{Monomial}
use Rattle.nc_algebra.specs.Polynomials.{Polynomial}
use Rattle.nc_algebra.specs.Problems.{Bound}
use Rattle.nc_algebra.specs.Settings.{NamedSetting}
use Rattle.nc_algebra.specs.Primes.{is_listed_prime}
use Rattle.nc_algebra.specs.Words.{Word}
use Rattle.nc_tokens.specs.declared.fault.Kind.{Kind}
use Rattle.nc_tokens.specs.declared.fault.Kind.TheVariants.{BadName, BadPrime, DoubleName, LongLine, OutOfRange, Syntax, TooManyGenerators, TooManyNames, ZeroGenerator}
use Rattle.nc_tokens.specs.Wanted.{close_at, close_brace_at, end_at, literal_at, misplaced, open_at, ◌>>=◌}
use Rattle.nc_text.specs.Reading.{poly_at, word_at}
use Rattle.nc_tokens.specs.Tokens.{Literal, Name, OpenBrace, Token}
use Rattle.std.specs.List.{list_any}
use Rattle.std.specs.Prelude.{Bool, Err, List, Ok, Result, [], codes, if◌then◌else◌, length, nat_lt, suc, zero, ℕ, ◌%◌, ◌&&◌, ◌++◌, ◌+◌, ◌==◌, ◌||◌, ◌∷◌}
use Rattle.std.specs.Str.{bytes_eq}

-- a number, if it passes a test
abbrev pub checked : Bool → Kind → ℕ → Result ℕ Kind
checked passes fault n = if passes then Ok n else Err fault

-- a number from 1 to the most
abbrev pub counted : ℕ → ℕ → Result ℕ Kind
counted most n = checked (nat_lt 0 n && nat_lt n (most + 1)) OutOfRange n

-- certificate: the form, which is 1 or 2
unfoldable pub form_at : List Token → Result ℕ Kind
form_at ts = do
  n ← literal_at ts
  form ← checked ((n.0 == 1) || (n.0 == 2)) OutOfRange n.0
  _ ← end_at n.1
  Ok form

-- field: a literal that is a prime of the list
unfoldable pub field_at : List Token → Result ℕ Kind
field_at ts = do
  n ← literal_at ts
  p ← checked (is_listed_prime n.0) BadPrime n.0
  _ ← end_at n.1
  Ok p

-- a further name beside the names so far
abbrev pub further_name : List (List ℕ) → List ℕ → Result (List ℕ) Kind
further_name names name = if is_name name
    then (if nat_lt (length names) 64 then
    (if list_any (λ n. bytes_eq n name) names then Err DoubleName else Ok name) else Err
    TooManyNames)
    else Err BadName

-- letters: one or more names, behind those so far
unfoldable pub letters_at : List (List ℕ) → List Token → Result (List (List ℕ)) Kind
letters_at names [] = if length names == 0 then Err Syntax else Ok names
letters_at names (Name name ∷ rest) =
    further_name names name >>= λ further. letters_at (names ++ further ∷ []) rest
letters_at names ts = Err BadName

-- a weight: a literal from 1 to 100
abbrev pub weight_at : List Token → Result (ℕ × List Token) Kind
weight_at ts = do
  m ← literal_at ts
  weight ← counted 100 m.0
  Ok (weight, m.1)

-- weights: one for each of n letters
unfoldable pub weights_at : ℕ → List Token → Result (List ℕ) Kind
weights_at zero ts = do
  _ ← end_at ts
  Ok []
weights_at (suc n) ts = do
  first ← weight_at ts
  others ← weights_at n first.1
  Ok (first.0 ∷ others)

-- a generator is not zero
abbrev pub nonzero : Polynomial → Result Polynomial Kind
nonzero [] = Err ZeroGenerator
nonzero (t ∷ f) = Ok (t ∷ f)

-- generator, of which so many may still come: too many is told before the polynomial, and zero
-- after it
unfoldable pub generator_at : ℕ → Alphabet → ℕ → List Token → Result Polynomial Kind
generator_at p a room ts = if room == 0 then Err TooManyGenerators else (poly_at p a ts >>= nonzero)

-- SIDE: the literal with value 1, which is the empty word, or a word
unfoldable pub side_at : Alphabet → List Token → Result (Word × List Token) Kind
side_at a (Literal n ∷ rest) = if n == 1 then Ok ([], rest) else Err Syntax
side_at a ts = word_at a ts

-- the number of one of so many generators, in brackets
unfoldable pub generator_number_at : ℕ → List Token → Result (ℕ × List Token) Kind
generator_number_at generators ts = do
  inside ← open_at ts
  n ← literal_at inside
  i ← counted generators n.0
  outside ← close_at n.1
  Ok (i, outside)

-- the number of one of so many lines, behind its opening brace
unfoldable pub line_number_at : ℕ → List Token → Result (ℕ × List Token) Kind
line_number_at lines ts = do
  n ← literal_at ts
  k ← counted lines n.0
  outside ← close_brace_at n.1
  Ok (k, outside)

-- MONO over so many generators, to the end of the line: SIDE [ literal ] SIDE
unfoldable pub mono_at : Alphabet → ℕ → List Token → Result Monomial Kind
mono_at a generators ts = do
  left ← side_at a ts
  number ← generator_number_at generators left.1
  right ← side_at a number.1
  _ ← end_at right.1
  Ok (record { left = left.0; generator = number.0; right = right.0 })

-- term: a literal, which counts modulo the prime, and MONO
unfoldable pub term_row_at : ℕ → Alphabet → ℕ → List Token → Result Part Kind
term_row_at p a generators ts = do
  c ← literal_at ts
  σ ← mono_at a generators c.1
  Ok (record {
    coefficient = c.0 % p;
    left = σ.left;
    of = Factor.a_generator σ.generator;
    right = σ.right;
  })

-- what a part multiplies: a generator's number in brackets, or a line's in braces
unfoldable pub multiplied_at : ℕ → ℕ → List Token → Result (Factor × List Token) Kind
multiplied_at generators lines (OpenBrace ∷ rest) = do
  k ← line_number_at lines rest
  Ok (Factor.a_line k.0, k.1)
multiplied_at generators lines ts = do
  i ← generator_number_at generators ts
  Ok (Factor.a_generator i.0, i.1)

-- a part whose reach is not too great
abbrev pub within_reach : Setting → List ℕ → Part → Result Part Kind
within_reach s reaches part =
    if nat_lt max_reach (part_reach s reaches part) then Err LongLine else Ok part

-- part, behind the lines with these reaches: a literal, SIDE, what is multiplied, SIDE
unfoldable pub part_at : NamedSetting → List ℕ → List Token → Result Part Kind
part_at s reaches ts = do
  c ← literal_at ts
  left ← side_at s.alphabet c.1
  of ← multiplied_at (length s.setting.generators) (length reaches) left.1
  right ← side_at s.alphabet of.1
  _ ← end_at right.1
  within_reach s.setting reaches (record {
    coefficient = c.0 % s.setting.prime;
    left = left.0;
    of = of.0;
    right = right.0;
  })

-- behind `degree`: a literal of at most 1,000
unfoldable pub degree_at : List Token → Result Bound Kind
degree_at ts = do
  n ← literal_at ts
  d ← checked (nat_lt n.0 1001) OutOfRange n.0
  _ ← end_at n.1
  Ok (Bound.to_degree d)

-- behind `below`: MONO
unfoldable pub below_at : Alphabet → ℕ → List Token → Result Bound Kind
below_at a generators ts = do
  β ← mono_at a generators ts
  Ok (Bound.under β)

-- bound: `degree` and a literal, or `below` and MONO
unfoldable pub bound_at : Alphabet → ℕ → List Token → Result Bound Kind
bound_at a generators (Name word ∷ rest) = if bytes_eq word (codes "degree") then degree_at rest
    else (if bytes_eq word (codes "below") then below_at a generators rest else Err Syntax)
bound_at a generators ts = Err (misplaced ts)

-- steps: a literal of at most 1,000,000,000
unfoldable pub steps_at : List Token → Result ℕ Kind
steps_at ts = do
  n ← literal_at ts
  steps ← checked (nat_lt n.0 1000000001) OutOfRange n.0
  _ ← end_at n.1
  Ok steps
