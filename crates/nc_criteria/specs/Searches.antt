-- What the search for the best multiple has on its way: the best one of a range.
--
-- To compare two multiples the search needs their words, which `IsBestWithin` in `Multiples.antt`
-- leaves out. A word is held in three pieces on the way, and is not made.
use Rattle.nc_algebra.specs.Elements.{Setting}
use Rattle.nc_algebra.specs.Monomials.{Monomial}
use Rattle.nc_criteria.specs.Multiples.{IsMultipleWithin}
use Rattle.nc_criteria.specs.declared.multiple.Found.{Found}
use Rattle.nc_theory.specs.Best.{IsBestIn}
use Rattle.nc_theory.specs.Found.{Best}
use Rattle.nc_theory.specs.States.{Entry}
use Rattle.nc_words.specs.Products.{joined_word}
use Rattle.std.specs.Prelude.{List, Option, ℕ}

-- the best multiple among the entries numbered above `after` and at most `until`, with its word
abbrev pub IsBestBetween : (s : Setting) → List Entry → Monomial → ℕ → ℕ → Option Best → Type 0
IsBestBetween s entries τ after until =
    IsBestIn s entries (IsMultipleWithin s entries τ after until)

-- a multiple that was found, with its word
abbrev pub found_of : Found → Best
found_of f =
    record {
      word = joined_word f.word;
      left = f.word.first.now;
      number = f.number;
      right = f.word.third.now;
    }
