-- The bound of a problem, as the monomials below one signature.
--
-- A reduction takes a signature as its bound. With this, one piece of code serves for reduction at
-- a signature and for that of a claim within the bound of a problem.
use Rattle.nc_algebra.specs.Elements.{IsGenerator}
use Rattle.nc_algebra.specs.Monomials.{Monomial, Sig}
use Rattle.nc_algebra.specs.Problems.{IsWithin, Problem}
use Rattle.nc_index.specs.Chosen.{IsBelowSig}
use Rattle.std.specs.Prelude.{◌↔◌}

-- exactly the monomials of the problem's bound are below β
abbrev pub IsLimitOf : Problem → Sig → Type 0
IsLimitOf P β =
    (σ : Monomial) → IsGenerator P.setting σ.generator → IsBelowSig P.setting β σ ↔ IsWithin P σ
