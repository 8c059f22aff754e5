-- One turn of a reduction in code, where the bound is a signature with its degree.
--
-- The turn is one of the two that `Turns.antt` of nc_theory defines: a term was kept, or a multiple
-- was subtracted.
use Rattle.nc_algebra.specs.Elements.{Setting}
use Rattle.nc_algebra.specs.Monomials.{Sig}
use Rattle.nc_algebra.specs.Polynomials.{Polynomial}
use Rattle.nc_index.specs.Chosen.{IsBelowSig}
use Rattle.nc_reduce.specs.declared.turn.Turn.{Turn}
use Rattle.nc_reduce.specs.declared.turn.Turn.TheVariants.{Kept, Subtracted}
use Rattle.nc_theory.specs.Turns.{IsKept, IsSubtracted}
use Rattle.nc_theory.specs.States.{Entry}
use Rattle.std.specs.Prelude.{List}

-- what was done with the greatest word, by multiples with a signature below β
abbrev pub IsTurn : Setting → List Entry → Sig → Polynomial → Polynomial → Turn → Type 0
IsTurn s entries β old new (Kept t) = IsKept s entries (IsBelowSig s β) old new t
IsTurn s entries β old new (Subtracted step) = IsSubtracted s entries (IsBelowSig s β) old new step
