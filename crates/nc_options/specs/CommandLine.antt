-- The theorems on the words of a command line.
--
-- Words are uses exactly where they spell them, and the order of the uses is free. Both hold where
-- no name of an option has a `=`, as `are_names` asks. Each law is the contract of a public
-- function with an empty body.
use Rattle.std.specs.Prelude.{◌≡◌, ◌↔◌, Bool, true, not, List, Some, IsPermutation}
use Rattle.std.specs.List.{list_all}
use Rattle.nc_options.specs.Pieces.{Text, has_equals}
use Rattle.nc_options.specs.Uses.{Use, is_distinct, uses_of, value_of}
use Rattle.nc_options.specs.Spellings.{AreSpelled}

-- the names have no `=`
abbrev pub are_names : List Text → Bool
are_names names = list_all (λ name. not (has_equals name)) names

-- words are uses exactly where they are the uses written one behind another, and no name stands
-- twice
abbrev pub UsesAreSpelled : Type 0
UsesAreSpelled =
    (names : List Text) (takes_number : Bool) (words : List Text) (uses : List Use)
    → are_names names ≡ true
    → (uses_of names takes_number words ≡ Some uses)
    ↔ (AreSpelled names takes_number uses words × (is_distinct uses ≡ true))

-- the order of the uses is free: with the same uses in another order, in any spelling, each name
-- has the same value
abbrev pub OrderIsFree : Type 0
OrderIsFree =
    (names : List Text) (takes_number : Bool) (words words' : List Text) (uses uses' : List Use)
    → are_names names ≡ true
    → uses_of names takes_number words ≡ Some uses → AreSpelled names takes_number uses' words'
    → IsPermutation uses uses'
    → (uses_of names takes_number words' ≡ Some uses')
    × ((name : Text) → value_of name uses' ≡ value_of name uses)
