-- Bounds of the code as those of the definitions.
--
-- The monomial of a bound carries its degree in code. The degree is only right in the setting of
-- the problem, so that is a fact of its own.
use Rattle.nc_algebra.specs.Elements.{HasDegree, Setting}
use Rattle.nc_algebra.specs.Monomials.{monomial_of}
use Rattle.nc_algebra.specs.Problems.{Bound as Limit}
use Rattle.nc_module.specs.declared.problem.Bound.{Bound}
use Rattle.nc_module.specs.declared.problem.Bound.TheVariants.{Below, Degree}

-- the variants as the definitions have them
abbrev pub bound_of : Bound → Limit
bound_of (Degree d) = Limit.to_degree d
bound_of (Below σ) = Limit.under (monomial_of σ)

-- the degree beside a bound's monomial is its degree in the setting
abbrev pub HasBoundDegree : Setting → Bound → Type 0
HasBoundDegree s (Degree d) = Unit {0}
HasBoundDegree s (Below σ) = HasDegree s σ
