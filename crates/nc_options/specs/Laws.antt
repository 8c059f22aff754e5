-- The theorems on options: their order is free, and their numbers lie in their ranges.
--
-- Each law is the contract of a public function with an empty body.
use Rattle.std.specs.Prelude.{◌≡◌, ◌≤◌, ℕ, Bool, List, [], ◌∷◌, Some, codes, if◌then◌else◌, IsPermutation}
use Rattle.std.specs.Str.{bytes_eq}
use Rattle.nc_options.specs.Pieces.{Text}
use Rattle.nc_options.specs.Uses.{Use}
use Rattle.nc_options.specs.Spellings.{AreSpelled}
use Rattle.nc_options.specs.Options.{basis_names, demo_names, member_names, options_of}
use Rattle.nc_options.specs.declared.options.Options.{Options}
use Rattle.nc_options.specs.declared.options.Options.TheVariants.{Basis, Check, Demo, Member}

-- the options of a command
abbrev pub names_of : Text → List Text
names_of command = if bytes_eq command (codes "basis") then basis_names
    else (if bytes_eq command (codes "member") then member_names
    else (if bytes_eq command (codes "demo") then demo_names else []))

-- whether a command takes a number
abbrev pub takes_number : Text → Bool
takes_number command = bytes_eq command (codes "demo")

-- the same uses, in another order and in any spelling, give the same
abbrev pub OptionsInAnyOrder : Type 0
OptionsInAnyOrder = (command : Text) (words words' : List Text) (uses uses' : List Use)
    → AreSpelled (names_of command) (takes_number command) uses words
    → AreSpelled (names_of command) (takes_number command) uses' words'
    → IsPermutation uses uses'
    → options_of (command ∷ words) ≡ options_of (command ∷ words')

-- the number lies in the range, both ends included
abbrev pub IsInRange : ℕ → ℕ → ℕ → Type 0
IsInRange low high number = (low ≤ number) × (number ≤ high)

-- the numbers lie in their ranges
abbrev pub AreInRange : Options → Type 0
AreInRange (Basis options) =
    IsInRange 1 64 options.workers × IsInRange 1 4096 options.window
    × IsInRange 1 10000000 options.limit
AreInRange (Member options) =
    IsInRange 1 64 options.workers × IsInRange 1 4096 options.window
    × IsInRange 1 10000000 options.limit
AreInRange Check = Unit {0}
AreInRange (Demo options) =
    IsInRange 0 65536 options.number × IsInRange 2 10 options.degree
    × IsInRange 1 64 options.workers × IsInRange 1 4096 options.window

-- options that words give have numbers in their ranges, the defaults included
abbrev pub OptionsAreInRange : Type 0
OptionsAreInRange =
    (words : List Text) (options : Options) → options_of words ≡ Some options → AreInRange options
