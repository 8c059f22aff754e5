-- A place of a leading word in another list that has its entry, or in a word spelled the same; and
-- an ambiguity in another list that has its entries.
use Rattle.nc_algebra.specs.Elements.{Setting}
use Rattle.nc_algebra.specs.Monomials.{Monomial}
use Rattle.nc_algebra.specs.Words.{Word}
use Rattle.nc_theory.specs.Ambiguities.{Ambiguity}
use Rattle.nc_theory.specs.Divisors.{Divisor}
use Rattle.nc_theory.specs.States.{Entry}
use Rattle.std.proofs.Common.{Contains, List, ◌∙◌, ◌≡◌}

-- the same place, among other entries
abbrev pub relisted : {s : Setting} {es es' : List Entry} {w : Word} (d : Divisor s es w)
    → Contains es' d.entry → Divisor s es' w
relisted d listed =
    record {
      entry = d.entry;
      listed = listed;
      left = d.left;
      right = d.right;
      spells = d.spells;
    }

-- the same place, in an equal word
abbrev pub respelled : {s : Setting} {es : List Entry} {w w' : Word} → Divisor s es w → w ≡ w'
    → Divisor s es w'
respelled d e =
    record {
      entry = d.entry;
      listed = d.listed;
      left = d.left;
      right = d.right;
      spells = d.spells ∙ e;
    }

-- the same ambiguity, among other entries
abbrev pub relisted_ambiguity : {s : Setting} {es es' : List Entry} {ρ : Monomial} {w : Word}
    (a : Ambiguity s es ρ w) → Contains es' a.high.entry → Contains es' a.low.entry
    → Ambiguity s es' ρ w
relisted_ambiguity a high low =
    record {
      high = relisted a.high high;
      low = relisted a.low low;
      spans_front = a.spans_front;
      spans_back = a.spans_back;
      high_begins = a.high_begins;
      low_begins = a.low_begins;
      below = a.below;
      signed = a.signed;
    }
