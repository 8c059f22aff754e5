-- Module elements as code keeps them: lists of terms whose monomials carry their degree.
--
-- In code the terms descend, and coefficients are residues. The degree of a monomial follows from
-- the setting, so these functions forget it, or carry it along.
use Rattle.nc_algebra.specs.Elements.{Element}
use Rattle.nc_algebra.specs.Monomials.{Sig, compare_sigs, monomial_of, sig_times}
use Rattle.nc_algebra.specs.Sums.{Term, map_keys}
use Rattle.nc_algebra.specs.Words.{Word}
use Rattle.nc_poly.specs.Multiples.{moved_by}
use Rattle.std.specs.Ordering.{eq_by_cmp}
use Rattle.std.specs.Prelude.{Bool, List, ℕ}

-- the test of two monomials with their degrees
abbrev pub same_sig : Sig → Sig → Bool
same_sig = eq_by_cmp compare_sigs

-- without the degrees
abbrev pub element_of : List (Term Sig) → Element
element_of m = map_keys monomial_of m

-- u m v
abbrev pub module_times : Word → List (Term Sig) → Word → List (Term Sig)
module_times u m v = map_keys (λ σ. sig_times u σ v) m

-- c u m v, with residues
abbrev pub module_multiples : ℕ → ℕ → Word → List (Term Sig) → Word → List (Term Sig)
module_multiples p c u m v = moved_by p c (λ σ. sig_times u σ v) m
