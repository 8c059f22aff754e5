-- Uses as words: all that may stand behind a command word.
--
-- `Uses.antt` says what words mean; this file says how a meaning is written. The law
-- `UsesAreSpelled` shows that they agree. A value that begins with a hyphen can only be written as
-- `--name=value`.
use Rattle.std.specs.Prelude.{◌≡◌, ◌++◌, ◌⊎◌, Bool, true, List, [], ◌∷◌, None, codes}
use Rattle.nc_options.specs.Pieces.{Text, after_hyphen, is_among}
use Rattle.nc_options.specs.Uses.{Use, number_id}

-- the word does not begin with a hyphen
abbrev pub IsPlain : Text → Type 0
IsPlain word = after_hyphen word ≡ None

-- `--name`
abbrev pub option_word : Text → Text
option_word name = codes "--" ++ name

-- `--name=value`
abbrev pub joined_text : Text → Text → Text
joined_text name value = option_word name ++ (codes "=" ++ value)

-- `--name=value`, of one of the names; the value may be any text
pub record IsJoined (names : List Text) (u : Use) (words : List Text) : Type 0 where
  pub option : is_among names u.0 ≡ true
  pub words_are : words ≡ joined_text u.0 u.1 ∷ []

-- `--name` and `value`, of one of the names; the value is a plain word
pub record IsParted (names : List Text) (u : Use) (words : List Text) : Type 0 where
  pub option : is_among names u.0 ≡ true
  pub value : IsPlain u.1
  pub words_are : words ≡ option_word u.0 ∷ u.1 ∷ []

-- the number alone, a plain word, of a command that takes one
pub record IsNumber (takes_number : Bool) (u : Use) (words : List Text) : Type 0 where
  pub taken : takes_number ≡ true
  pub name : u.0 ≡ number_id
  pub value : IsPlain u.1
  pub words_are : words ≡ u.1 ∷ []

-- the words are one use, in one of the three ways
abbrev pub IsSpelled : List Text → Bool → Use → List Text → Type 0
IsSpelled names takes_number u words =
    IsJoined names u words ⊎ (IsParted names u words ⊎ IsNumber takes_number u words)

-- the words are these uses, one behind another
abbrev pub AreSpelled : List Text → Bool → List Use → List Text → Type 0
AreSpelled names takes_number [] words = words ≡ []
AreSpelled names takes_number (u ∷ uses) words =
    (first : List Text) × (rest : List Text) × (words ≡ first ++ rest)
    × IsSpelled names takes_number u first × AreSpelled names takes_number uses rest
