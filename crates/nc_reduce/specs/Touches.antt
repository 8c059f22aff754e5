-- Words of a polynomial that newer entries divide.
--
-- A reduction keeps the words that no entry divides below its signature. What it kept is touched
-- where an entry that was found since divides one of them so: any of them, for they were all kept.
use Rattle.nc_algebra.specs.Monomials.{Sig}
use Rattle.nc_algebra.specs.Polynomials.{Polynomial}
use Rattle.nc_algebra.specs.Sums.{Term}
use Rattle.nc_algebra.specs.Words.{Word}
use Rattle.nc_index.specs.Pairs.{HasRegularAfter, Lead}
use Rattle.std.specs.Prelude.{Contains, List, ℕ}

-- a pair behind the first n stands in some word of f, with a multiple below β
abbrev pub IsTouched : List Lead → ℕ → Polynomial → Sig → Type 0
IsTouched leads n f β = (t : Term Word) × Contains f t × HasRegularAfter leads n t.key β
