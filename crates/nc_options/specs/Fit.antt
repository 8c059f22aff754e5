-- What is asked of the words before `clap` sees them.
--
-- `clap` knows more forms than `Uses.antt` does. So the words are tested first: `--`, `--help`,
-- `--version`, shortened names, short options and repeated options are refused before `clap` can
-- take them in a way of its own. For words that pass the test, what `clap` finds is what the
-- definitions say.
use Rattle.std.specs.Prelude.{◌&&◌, Bool, true, false, not, List, nat_le, option_and_then}
use Rattle.std.specs.List.{count_by, list_all}
use Rattle.std.specs.Option.{option_map_or}
use Rattle.std.specs.Str.{bytes_eq}
use Rattle.nc_options.specs.Pieces.{Text, Piece, stray, after_hyphen, name_in, piece_of}

-- a piece is a stray word
abbrev pub is_stray : Piece → Bool
is_stray stray = true
is_stray _ = false

-- a word does not begin with a hyphen, or names an option in full
abbrev pub is_fit : List Text → Text → Bool
is_fit names word = not (is_stray (piece_of names word))

-- each word does
abbrev pub are_fit : List Text → List Text → Bool
are_fit names words = list_all (is_fit names) words

-- the word is the option of this name: `--name` or `--name=value`
abbrev pub names_option : Text → Text → Bool
names_option name word =
    option_map_or (λ text. bytes_eq (name_in text) name)
    (option_and_then after_hyphen (after_hyphen word)) false

-- each option stands in at most one word
abbrev pub are_single : List Text → List Text → Bool
are_single names words = list_all (λ name. nat_le (count_by (names_option name) words) 1) names

-- what is asked of the words before `clap` sees them
abbrev pub are_fit_and_single : List Text → List Text → Bool
are_fit_and_single names words = are_fit names words && are_single names words
