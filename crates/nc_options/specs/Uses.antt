-- The words behind the command word as uses: values with the names of their options.
--
-- A use is a name and its value. A number that stands alone is a use with the name `number`, which
-- no option has, so that one rule, each name at most once, serves options and number alike. The
-- words are read from left to right. The only thing to keep in mind is an option that still wants
-- its value. Where a word fits nothing, the words are no uses at all.
--
-- In each definition `names` are the options of the command, and `takes_number` says whether it
-- takes a number.
use Rattle.std.specs.Prelude.{◌&&◌, Bool, true, not, List, [], ◌∷◌, Option, Some, None, codes, if◌then◌else◌, find, option_map, option_and_then}
use Rattle.std.specs.List.{list_any}
use Rattle.std.specs.Str.{bytes_eq}
use Rattle.nc_options.specs.Pieces.{Text, Piece, joined, named, plain, piece_of}

-- a name and its value
abbrev pub Use : Type 0
Use = Text × Text

-- the name of the number
abbrev pub number_id : Text
number_id = codes "number"

-- a use, before the uses of the words behind it
abbrev pub with_use : Text → Text → Option (List Use) → Option (List Use)
with_use name value rest = option_map (λ uses. (name, value) ∷ uses) rest

-- the uses from a piece on. `wanted` is the option before it that still wants its value, and `next`
-- gives the uses of
-- the words behind the piece, by the option that then wants its value.
abbrev pub split_piece : Bool → Option Text → Piece → (Option Text → Option (List Use))
    → Option (List Use)
split_piece takes_number None (joined name value) next = with_use name value (next None)
split_piece takes_number None (named name) next = next (Some name)
split_piece takes_number None (plain word) next =
    if takes_number then with_use number_id word (next None) else None
split_piece takes_number (Some name) (plain word) next = with_use name word (next None)
split_piece takes_number _ _ next = None

-- at the end of the words no option may want its value
abbrev pub split_end : Option Text → Option (List Use)
split_end None = Some []
split_end (Some name) = None

-- the uses that the words are, in their order
abbrev pub split : List Text → Bool → List Text → Option Text → Option (List Use)
split names takes_number [] wanted = split_end wanted
split names takes_number (word ∷ rest) wanted =
    split_piece takes_number wanted (piece_of names word) (split names takes_number rest)

-- no name stands twice
abbrev pub is_distinct : List Use → Bool
is_distinct [] = true
is_distinct (u ∷ rest) = not (list_any (λ v. bytes_eq v.0 u.0) rest) && is_distinct rest

-- the uses, if no name stands twice
abbrev pub if_distinct : List Use → Option (List Use)
if_distinct uses = if is_distinct uses then Some uses else None

-- the uses that the words are, each name at most once
abbrev pub uses_of : List Text → Bool → List Text → Option (List Use)
uses_of names takes_number words = option_and_then if_distinct (split names takes_number words None)

-- the value of a name
abbrev pub value_of : Text → List Use → Option Text
value_of name uses = option_map (λ u. u.1) (find (λ u. bytes_eq u.0 name) uses)
