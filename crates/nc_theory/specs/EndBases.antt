-- What a state of a run has enough of, in the form in which programs promise it.
--
-- The notions are those of `Bases.antt`, put together: for a set of monomials, and for
-- how a run ended.
use Rattle.nc_algebra.specs.Elements.{SamePolynomial, Setting}
use Rattle.nc_algebra.specs.Monomials.{Monomial}
use Rattle.nc_algebra.specs.Polynomials.{Polynomial}
use Rattle.nc_algebra.specs.Problems.{IsWithin, IsWithinBelow, Problem}
use Rattle.nc_theory.specs.Bases.{IsBasisBelow, IsCanonical, IsClosed, IsSyzygyBasisBelow}
use Rattle.nc_theory.specs.Runs.{End}
use Rattle.nc_theory.specs.States.{Entry, State}
use Rattle.std.specs.Prelude.{Contains}

-- the state is closed in the set, and has enough entries and enough syzygies there
pub record HasBases (s : Setting) (state : State) (set : Monomial → Type 0) : Type 0 where
  pub closed : IsClosed s state set
  pub basis : IsBasisBelow s state set
  pub syzygies : IsSyzygyBasisBelow s state set

-- within the bound where the run is complete, and else below the next signature
abbrev pub HasBasesAt : Problem → State → End → Type 0
HasBasesAt P state End.complete = HasBases P.setting state (IsWithin P)
HasBasesAt P state (End.budget τ) = HasBases P.setting state (IsWithinBelow P τ)

-- each entry's polynomial is the one canonical polynomial at its signature
abbrev pub AreCanonical : Setting → State → Type 0
AreCanonical s state =
    (e : Entry) → Contains state.entries e → IsCanonical s state.entries e.signature e.polynomial
    × ((f : Polynomial) → IsCanonical s state.entries e.signature f
    → SamePolynomial s f e.polynomial)
