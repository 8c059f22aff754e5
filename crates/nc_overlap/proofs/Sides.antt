-- Multiples of signatures, as the sides of an ambiguity.
use Rattle.nc_algebra.proofs.Degrees.{degree_within}
use Rattle.nc_algebra.proofs.Monomials.{degree-times}
use Rattle.nc_algebra.proofs.Words.{length_at_most}
use Rattle.nc_algebra.specs.Elements.{HasDegree, IsGenerator, Setting, degree, generator_weight}
use Rattle.nc_algebra.specs.Monomials.{Monomial, Sig, compare_monomials, compare_sigs, monomial_of, sig_times, times}
use Rattle.nc_algebra.specs.Problems.{Bound, IsProblem, IsWithin, IsWithinBound, NamedProblem}
use Rattle.nc_algebra.specs.Words.{Word, word_weight}
use Rattle.nc_theory.proofs.Meetings.{equal_only, greater_only, less_only}
use Rattle.nc_theory.specs.Meetings.{IsGreaterOf, IsOnly}
use Rattle.std.proofs.Common.{Equal, Greater, IsTrue, Less, None, Option, Ordering, Some, ap, ap₂, arith, length, subst, sym, ℕ, ◌+◌, ◌++◌, ◌∙◌, ◌↔◌, ◌≡◌, ◌≤◌}
use Rattle.std.proofs.Math.Dec.{leb}
use Rattle.std.proofs.lemmas.Bool.{le-leb, leb-true}

module _ (s : Setting) (u v : Word) (σ : Sig) (h : HasDegree s σ) where
  multiple_weighs : word_weight u + σ.degree + word_weight v ≡ degree s (times u (monomial_of σ) v)
  multiple_weighs =
      omega (
        arith,
        ap (λ (z : Sig). z.degree) h,
        degree-times (generator_weight s) u v (monomial_of σ),
      )

  -- the multiple has its degree
  pub multiple_degree : HasDegree s (sig_times u σ v)
  multiple_degree =
      λ i. record {
        degree = multiple_weighs i;
        generator = σ.generator;
        left = u ++ σ.left;
        right = σ.right ++ v;
      }

-- a multiple within the bound is small
pub multiple_fits : (P : NamedProblem) (u v : Word) (σ : Sig) → IsProblem P
    → HasDegree P.problem.setting σ → IsWithin P.problem (monomial_of (sig_times u σ v))
    → (word_weight u + σ.degree + word_weight v ≤ 80000) × (length u + length σ.left ≤ 80000)
    × (length σ.right + length v ≤ 80000)
multiple_fits P u v σ is h w =
    let whole : word_weight u + σ.degree + word_weight v ≤ 80000 =
    omega (
      arith,
      is.limited,
      multiple_weighs P.problem.setting u v σ h,
      degree_within P.problem.setting P.problem.bound (times u (monomial_of σ) v) w.1,
    ) in
    let parts : σ.degree ≡ word_weight σ.left + generator_weight P.problem.setting σ.generator
    + word_weight σ.right = ap (λ (z : Sig). z.degree) h in (
      whole,
      omega (arith, whole, parts, length_at_most u, length_at_most σ.left),
      omega (arith, whole, parts, length_at_most v, length_at_most σ.right),
    )

-- what the test of a degree tells
pub degree_tested : (s : Setting) (b : Bound) (σ : Sig) (d n m : ℕ) → Bound.to_degree d ≡ b
    → IsGenerator s σ.generator → HasDegree s σ → n ≡ σ.degree → m ≡ d → IsTrue (leb n m)
    ↔ IsWithinBound s b (monomial_of σ)
degree_tested s b σ d n m e g h i j =
    subst (λ x. IsTrue (leb n m) ↔ IsWithinBound s x (monomial_of σ)) e (
      λ t. (g, omega (arith, leb-true n m t, ap (λ (z : Sig). z.degree) h, i, j)),
      λ w. le-leb n m (omega (arith, w.1, ap (λ (z : Sig). z.degree) h, i, j)),
    )

-- the greater one, by how they compare
abbrev pub greater_one : Ordering → Monomial → Monomial → Option Monomial
greater_one Less a b = Some b
greater_one Equal a b = None
greater_one Greater a b = Some a

pub only_greater : (s : Setting) (σ τ : Sig) (o : Ordering) → HasDegree s σ → HasDegree s τ
    → o ≡ compare_sigs σ τ → IsOnly (IsGreaterOf s (monomial_of σ) (monomial_of τ))
    (greater_one o (monomial_of σ) (monomial_of τ))
only_greater s σ τ o h j is = go o (sym (is ∙ ap₂ compare_sigs h j))
  where
    go : (o : Ordering) → compare_monomials (generator_weight s) (monomial_of σ) (monomial_of τ) ≡ o
        → IsOnly (IsGreaterOf s (monomial_of σ) (monomial_of τ))
        (greater_one o (monomial_of σ) (monomial_of τ))
    go Less c = less_only s (monomial_of σ) (monomial_of τ) c
    go Equal c = equal_only s (monomial_of σ) (monomial_of τ) c
    go Greater c = greater_only s (monomial_of σ) (monomial_of τ) c
