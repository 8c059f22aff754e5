-- What a word is: an option with its value, an option, a plain word, or a stray one.
--
-- Words are lists of bytes. The names of a command's options are given as a list; they are written
-- in full, without hyphens, and have no `=`. What a word is does not depend on the words beside it;
-- what it means may (`Uses.antt`).
use Rattle.std.specs.Prelude.{◌==◌, ℕ, Bool, List, [], ◌∷◌, Option, Some, None, if◌then◌else◌}
use Rattle.std.specs.List.{list_any, before_first, after_first}
use Rattle.std.specs.Str.{bytes_eq}

-- a word, a name or a value, as a list of bytes
abbrev pub Text : Type 0
Text = List ℕ

-- the text is one of the names
abbrev pub is_among : List Text → Text → Bool
is_among names text = list_any (λ name. bytes_eq name text) names

-- what stands behind a first hyphen (45)
abbrev pub after_hyphen : Text → Option Text
after_hyphen [] = None
after_hyphen (byte ∷ text) = if byte == 45 then Some text else None

-- what stands before the first `=` (61), the whole text where there is none
abbrev pub name_in : Text → Text
name_in text = before_first (λ byte. byte == 61) text

-- what stands behind the first `=`
abbrev pub value_in : Text → Text
value_in text = after_first (λ byte. byte == 61) text

-- a text has a `=`
abbrev pub has_equals : Text → Bool
has_equals text = list_any (λ byte. byte == 61) text

-- what a word can be
pub data Piece : Type 0 where
  -- `--name=value`, of one of the names
  joined : Text → Text → Piece
  -- `--name`, of one of the names
  named : Text → Piece
  -- a word that does not begin with a hyphen
  plain : Text → Piece
  -- any other word: `--`, `-`, a short option, a name that is none of the names
  stray : Piece

-- a word that begins with a hyphen, by what stands behind a second one
abbrev pub long_piece : List Text → Option Text → Piece
long_piece names None = stray
long_piece names (Some text) =
    if is_among names (name_in text)
    then (if has_equals text then joined (name_in text) (value_in text) else named (name_in text))
    else stray

-- a word, by what stands behind a first hyphen
abbrev pub hyphen_piece : List Text → Text → Option Text → Piece
hyphen_piece names word None = plain word
hyphen_piece names word (Some rest) = long_piece names (after_hyphen rest)

-- the piece that a word is, where `names` are the options of the command
abbrev pub piece_of : List Text → Text → Piece
piece_of names word = hyphen_piece names word (after_hyphen word)
