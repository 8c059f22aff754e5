-- Module monomials with their degree, compared with each other and with a bound's monomial.
use Rattle.nc_algebra.proofs.Monomials.{monomial_irrefl, monomial_trans, monomials_compare}
use Rattle.nc_algebra.proofs.Orders.{compare_less, less_from_compare}
use Rattle.nc_algebra.specs.Elements.{HasDegree, IsGenerator, IsLess, Setting, generator_weight}
use Rattle.nc_algebra.specs.Monomials.{IsMonomialLess, Sig, compare_monomials, compare_sigs, monomial_of}
use Rattle.nc_algebra.specs.Problems.{Bound, IsWithinBound}
use Rattle.std.proofs.Common.{Bool, IsTrue, Less, Ordering, ap, ap₂, arith, subst, sym, true, ◌∙◌, ◌↔◌, ◌≡◌}
use Rattle.std.specs.Ordering.{is_lt}

-- the order of the setting, on monomials with their degrees
pub less_from_sigs : (s : Setting) (σ β : Sig) → HasDegree s σ → HasDegree s β
    → compare_sigs σ β ≡ Less → IsLess s (monomial_of σ) (monomial_of β)
less_from_sigs s σ β h k e =
    less_from_compare (compare_monomials (generator_weight s)) (IsMonomialLess (generator_weight s))
    (monomials_compare (generator_weight s)) (monomial_of σ) (monomial_of β)
    (sym (ap₂ compare_sigs h k) ∙ e)

pub sigs_from_less : (s : Setting) (σ β : Sig) → HasDegree s σ → HasDegree s β
    → IsLess s (monomial_of σ) (monomial_of β) → compare_sigs σ β ≡ Less
sigs_from_less s σ β h k l =
    ap₂ compare_sigs h k ∙ compare_less (compare_monomials (generator_weight s))
    (IsMonomialLess (generator_weight s)) (monomials_compare (generator_weight s))
    (monomial_irrefl (generator_weight s)) (monomial_trans (generator_weight s)) (monomial_of σ)
    (monomial_of β) l

less_is : (o : Ordering) → is_lt o ≡ true → o ≡ Less
less_is o e = grind (arith, e)

-- what the test for a bound's monomial tells
pub under_tested : (s : Setting) (b : Bound) (σ β : Sig) (r : Bool)
    → b ≡ Bound.under (monomial_of β) → IsGenerator s σ.generator → HasDegree s σ → HasDegree s β
    → r ≡ is_lt (compare_sigs σ β) → IsTrue r ↔ IsWithinBound s b (monomial_of σ)
under_tested s b σ β r e g h k is =
    subst (λ x. IsTrue r ↔ IsWithinBound s x (monomial_of σ)) (sym e) (
      λ t. (g, less_from_sigs s σ β h k (less_is (compare_sigs σ β) (sym is ∙ t))),
      λ w. is ∙ ap is_lt (sigs_from_less s σ β h k w.1),
    )
