-- What a caller of `clap` knows of its answer.
use Rattle.std.proofs.Common.{◌≡◌, ◌∙◌, ◌<◌, Bool, true, false, refl, sym, ap, arith, List, [], ◌∷◌, Some, None, map, take, drop, length, ◌-◌, inl, inr}
use Rattle.std.specs.List.{list_all}
use Rattle.std.proofs.lemmas.List.{take_all}
use Rattle.nc_options.specs.Pieces.{Text, is_among}
use Rattle.nc_options.specs.Fit.{is_fit}
use Rattle.nc_options.specs.Uses.{Use, number_id, uses_of, value_of}
use Rattle.nc_options.specs.Commands.{command_for}
use Rattle.nc_options.proofs.Rows.{first_of_for}
use Rattle.nc_options.proofs.Parses.{decided, simple, simple_and_free}
use Rattle.clap.specs.Walk.{Row, rows_of}
use Rattle.clap.specs.Simple.{App, is_simple, matches_of}
use Rattle.clap.specs.Matches.{first_value}
use Rattle.clap.specs.Faults.{fault_of, is_simple_and_free}
use Rattle.clap.specs.declared.parser.matches.Found.{Found}
use Rattle.clap.proofs.WalkLemmas.{first_value-rows}

-- the words after the first
pub after_first_word : {X : Type 0} (f : X → Text) (xs : List X)
    → map f (take (length xs - 1) (drop 1 xs)) ≡ drop 1 (map f xs)
after_first_word f [] = refl
after_first_word f (x ∷ xs) = ap (map f) (take_all (length (x ∷ xs) - 1) xs (omega arith))

-- `clap` takes the words: it found just the uses
pub taken : (name : Text) (names : List Text) (number : Bool) (a : App) (words : List Text)
    (f : Found) → 0 < length words
    → is_among names [] ≡ false → is_among names number_id ≡ false
    → list_all (is_fit names) (drop 1 words) ≡ true → a ≡ command_for name names number
    → (is_simple_and_free a ≡ true → fault_of a words ≡ [])
    → (is_simple a ≡ true → rows_of f ≡ matches_of a words)
    → (uses : List Use) × (uses_of names number (drop 1 words) ≡ Some uses)
    × ((id : Text) → first_value f id ≡ value_of id uses)
taken name names number a [] f some empty apart fit is fault rows = absurd (omega arith)
taken name names number a (w ∷ words) f some empty apart fit is fault rows =
    elim (decided name names number w words empty apart fit) [
      | inl t ↦ (
        t.uses,
        t.is,
        λ id. first_value-rows f id
            ∙ ap (Rattle.clap.specs.Walk.first_of id)
            (rows (ap is_simple is ∙ simple name names number)
            ∙ ap (λ x. matches_of x (w ∷ words)) is ∙ t.found)
            ∙ first_of_for id t.uses,
      )
      | inr r ↦ absurd (r.fault (sym (ap (λ x. fault_of x (w ∷ words)) is)
          ∙ fault (ap is_simple_and_free is ∙ simple_and_free name names number)))
    ]

-- `clap` refuses them, and not for want of memory: there are no uses
pub refused : (name : Text) (names : List Text) (number : Bool) (a : App) (words : List Text)
    → 0 < length words
    → is_among names [] ≡ false → is_among names number_id ≡ false
    → list_all (is_fit names) (drop 1 words) ≡ true → a ≡ command_for name names number
    → (is_simple_and_free a ≡ true → fault_of a words ≡ [] → ⊥)
    → uses_of names number (drop 1 words) ≡ None
refused name names number a [] some empty apart fit is fault = absurd (omega arith)
refused name names number a (w ∷ words) some empty apart fit is fault =
    elim (decided name names number w words empty apart fit) [
      | inl t ↦ absurd (fault (ap is_simple_and_free is ∙ simple_and_free name names number)
          (ap (λ x. fault_of x (w ∷ words)) is ∙ t.fault))
      | inr r ↦ r.is
    ]
