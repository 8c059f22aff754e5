-- Alphabets: names and weights of letters, and the words and polynomials over them.
--
-- Texts give letters by names; the theory knows them by numbers, which count from 0. A word is over
-- an alphabet where each of its letters has its number in the alphabet, and the weight that stands
-- there. A letter with another weight is another letter.
--
-- The limits of texts are tighter than those of values. A word in a text has at most 255 letters,
-- while a word that was computed may have more. The definitions with `Text` in their names say what
-- may stand in a text; the others ask only for the alphabet.
use Rattle.nc_algebra.specs.Lists.{IsDistinct}
use Rattle.nc_algebra.specs.Polynomials.{IsNormal, Polynomial}
use Rattle.nc_algebra.specs.Words.{Letter, Word}
use Rattle.std.specs.Char.{is_ascii_alphabetic, is_ascii_alphanumeric}
use Rattle.std.specs.List.{list_all}
use Rattle.std.specs.Prelude.{All, Bool, IsTrue, List, [], get_or, length, nat_le, slice_index, ℕ, ◌&&◌, ◌-◌, ◌<◌, ◌==◌, ◌||◌, ◌≡◌, ◌≢◌, ◌≤◌}

-- ---- names

-- a letter, a digit or an underscore
abbrev pub is_name_byte : ℕ → Bool
is_name_byte b = is_ascii_alphanumeric b || (b == 95)

-- an ASCII letter, and then letters, digits and underscores, at most 16 in all
abbrev pub is_name : List ℕ → Bool
is_name bytes =
    nat_le (length bytes) 16 && (is_ascii_alphabetic (slice_index bytes 0)
    && list_all is_name_byte bytes)

-- ---- alphabets

-- what stands at place i belongs to letter i
pub record Alphabet : Type 0 where
  pub names : List (List ℕ)
  pub weights : List ℕ

-- a weight of a letter
abbrev pub IsWeight : ℕ → Type 0
IsWeight m = (1 ≤ m) × (m ≤ 100)

-- 1 to 64 different names, with a weight from 1 to 100 for each
pub record IsAlphabet (a : Alphabet) : Type 0 where
  pub some : 0 < length a.names
  pub few : length a.names ≤ 64
  pub named : All (λ name. IsTrue (is_name name)) a.names
  pub apart : IsDistinct a.names
  pub each : length a.weights ≡ length a.names
  pub weights : All IsWeight a.weights

-- the letter with this number
abbrev pub letter_at : Alphabet → ℕ → Letter
letter_at a i = record { index = i; extra = get_or a.weights i 1 - 1 }

-- one of the letters
abbrev pub IsLetterIn : Alphabet → Letter → Type 0
IsLetterIn a x = (x.index < length a.names) × (x ≡ letter_at a x.index)

-- a word of such letters
abbrev pub IsWordIn : Alphabet → Word → Type 0
IsWordIn a w = All (IsLetterIn a) w

-- each word of the polynomial is such
abbrev pub AreWordsIn : Alphabet → Polynomial → Type 0
AreWordsIn a f = All (λ t. IsWordIn a t.key) f

-- a polynomial in normal form over such words
pub record IsPolynomialIn (a : Alphabet) (p : ℕ) (f : Polynomial) : Type 0 where
  pub normal : IsNormal p f
  pub words : AreWordsIn a f

-- ---- what may stand in a text

-- a word of at most 255 letters
pub record IsTextWord (a : Alphabet) (w : Word) : Type 0 where
  pub letters : IsWordIn a w
  pub short : length w ≤ 255

-- each word of the polynomial is such
abbrev pub AreTextWords : Alphabet → Polynomial → Type 0
AreTextWords a f = All (λ t. IsTextWord a t.key) f

-- a polynomial in normal form over such words
pub record IsTextPolynomial (a : Alphabet) (p : ℕ) (f : Polynomial) : Type 0 where
  pub normal : IsNormal p f
  pub words : AreTextWords a f

-- a generator: not zero
pub record IsTextGenerator (a : Alphabet) (p : ℕ) (f : Polynomial) : Type 0 where
  pub polynomial : IsTextPolynomial a p f
  pub nonzero : f ≢ []
