-- The tokens of a line: literals, names and signs.
--
-- A line is cut into pieces. A piece of digits, and a piece that begins with a letter, is as long
-- as it can be. Any other byte that is not blank is a piece alone: a sign, or a byte that begins no
-- token. Each line has tokens, so cutting never fails; the reading of the tokens tells what is
-- wrong.
use Rattle.nc_algebra.specs.Alphabets.{is_name_byte}
use Rattle.std.specs.Char.{is_ascii_alphabetic, is_ascii_digit}
use Rattle.std.specs.Prelude.{Bool, List, [], false, if◌then◌else◌, length, map, nat_lt, ℕ, ◌&&◌, ◌++◌, ◌==◌, ◌||◌, ◌∷◌}
use Rattle.std.specs.Str.Parse.{digits_value}

-- a number; digits that are too many for one; a name; a sign; a byte that begins no token
pub data Token : Type 0 where
  Literal : ℕ → Token
  Long : Token
  Name : List ℕ → Token
  Plus : Token
  Minus : Token
  Times : Token
  Power : Token
  Open : Token
  Close : Token
  OpenBrace : Token
  CloseBrace : Token
  Bad : Token

-- a space or a tab
abbrev pub is_blank : ℕ → Bool
is_blank b = (b == 32) || (b == 9)

-- whether a byte goes on with the piece so far: a digit with digits; a letter, a digit or an
-- underscore with a name
abbrev pub goes_on : List ℕ → ℕ → Bool
goes_on [] b = false
goes_on (first ∷ _) b =
    if is_ascii_digit first then is_ascii_digit b else (is_ascii_alphabetic first && is_name_byte b)

-- a piece that is over, unless it has no bytes
abbrev pub closed : List ℕ → List (List ℕ)
closed [] = []
closed (b ∷ bs) = (b ∷ bs) ∷ []

-- the pieces of a line, each as long as it goes on, without the blanks between them; `piece` is the
-- one so far
unfoldable pub pieces : List ℕ → List ℕ → List (List ℕ)
pieces piece [] = closed piece
pieces piece (b ∷ bs) = if goes_on piece b then pieces (piece ++ b ∷ []) bs
    else closed piece ++ (if is_blank b then pieces [] bs else pieces (b ∷ []) bs)

-- a sign, or a byte that begins no token
abbrev pub sign_of : ℕ → Token
sign_of b =
    if b == 43 then Plus else if b == 45 then Minus else if b == 42 then Times else if b == 94 then
    Power
    else if b == 91 then Open else if b == 93 then Close else if b == 123 then OpenBrace else if b
    == 125 then CloseBrace else Bad

-- a literal of at most 18 digits has its value; a longer one is Long
abbrev pub literal_of : List ℕ → Token
literal_of digits = if nat_lt 18 (length digits) then Long else Literal (digits_value 10 digits)

-- the token that a piece is
abbrev pub token_of : List ℕ → Token
token_of [] = Bad
token_of (b ∷ bs) =
    if is_ascii_digit b then literal_of (b ∷ bs) else if is_ascii_alphabetic b then Name (b ∷ bs)
    else sign_of b

-- the tokens of a line
unfoldable pub tokens : List ℕ → List Token
tokens line = map token_of (pieces [] line)
