-- What is left of a claim at the end of a run: it is one, and what was subtracted represents the
-- rest of the claim.
use Rattle.nc_algebra.proofs.Elements.{generator_dec}
use Rattle.nc_algebra.proofs.Monomials.{monomial_laws}
use Rattle.nc_algebra.proofs.Orders.{Decided}
use Rattle.nc_algebra.proofs.Sums.{linear_sum-substitute, linear_sum_same, zero_by_same}
use Rattle.nc_algebra.specs.Elements.{Element, IsGenerator, IsIn, IsLess, IsZeroPolynomial, SamePolynomial, Setting, evaluation, generator, generator_weight}
use Rattle.nc_algebra.specs.Monomials.{Monomial, Sig, same_monomial}
use Rattle.nc_algebra.specs.Polynomials.{Polynomial, coefficient, polynomial_times}
use Rattle.nc_algebra.specs.Primes.{IsField}
use Rattle.nc_algebra.specs.Problems.{IsInBound, IsProblem, IsWithin, NamedProblem}
use Rattle.nc_algebra.specs.Sums.{SameSum, Term, coefficient_by, is_at, linear_sum}
use Rattle.nc_algebra.specs.Words.{Word, same_word}
use Rattle.nc_cofactor.specs.Sums.{IsSum}
use Rattle.nc_module.specs.Modules.{element_of}
use Rattle.nc_theory.proofs.Completeness.{enough_at_end, invariant, within_down}
use Rattle.nc_theory.proofs.Determinism.{reduction_unique}
use Rattle.nc_theory.proofs.Ends.{bound_dec}
use Rattle.nc_theory.proofs.Existence.{reduce_exists}
use Rattle.nc_theory.proofs.Membership.{none_kept, represents}
use Rattle.nc_theory.proofs.Traces.{labels_hold}
use Rattle.nc_theory.specs.Bases.{HasRepresentation}
use Rattle.nc_theory.specs.Labels.{labels_of, step_multiples}
use Rattle.nc_theory.specs.Reductions.{Reduction}
use Rattle.nc_theory.specs.Runs.{End, IsEnd, SequentialRun}
use Rattle.nc_theory.specs.States.{Entry, State, Step}
use Rattle.nc_top.proofs.BasisAnswers.{field_of}
use Rattle.std.proofs.Common.{Contains, List, None, Option, [], ap, arith, inl, inr, refl, sym, ℕ, ◌%◌, ◌+◌, ◌<◌, ◌∙◌, ◌≡◌, ◌≢◌}

-- what a monomial evaluates to
abbrev monomial_value : Setting → Monomial → Polynomial
monomial_value s σ = polynomial_times σ.left (generator s σ.generator) σ.right

-- elements that are the same evaluate to the same
evaluation_same : (s : Setting) → 0 < s.prime → (α β : Element) → SameSum same_monomial s.prime α β
    → SamePolynomial s (evaluation s α) (evaluation s β)
evaluation_same s some α β same = record {
  at = λ y.
      ap (λ n. n % s.prime) (linear_sum-substitute (is_at same_word y) (monomial_value s) α)
      ∙ (linear_sum_same same_monomial (IsLess s) (monomial_laws (generator_weight s)) s.prime
      (λ σ. linear_sum (is_at same_word y) (monomial_value s σ)) α β some same
      ∙ ap (λ n. n % s.prime) (sym (linear_sum-substitute (is_at same_word y) (monomial_value s)
      β)));
}

module _ (P : NamedProblem) (is : IsProblem P) where
  field : IsField P.problem.setting.prime
  field = field_of P is

  some : 0 < P.problem.setting.prime
  some = omega (arith, field.above_one)

  within_dec : (state : State) (σ : Monomial) → Decided (IsWithin P.problem σ)
  within_dec state σ =
      go (generator_dec P.problem.setting σ.generator)
      (bound_dec P.problem state None P.problem.bound σ)
    where
      go : Decided (IsGenerator P.problem.setting σ.generator)
          → Decided (IsInBound P.problem.setting P.problem.bound σ) → Decided (IsWithin P.problem σ)
      go (inl g) (inl b) = inl (g, b)
      go (inl g) (inr n) = inr (λ w. n w.1)
      go (inr n) o = inr (λ w. n w.0)

  module _ {n : ℕ} {run : State} {last : Option Monomial}
      (runs : SequentialRun P.problem n run last) where
    alive : (e : Entry) → Contains run.entries e → ¬ IsZeroPolynomial P.problem.setting e.polynomial
    alive = (invariant P.problem field runs).sound.nonzero

    pub rest_exists : (f : Polynomial) → (rest : Polynomial) × (steps : List Step)
        × Reduction P.problem.setting run.entries (IsWithin P.problem) f rest steps
    rest_exists =
        reduce_exists P.problem.setting field run.entries alive (IsWithin P.problem)
        (within_dec run)

    pub rest_once : (f rest rest' : Polynomial) (steps steps' : List Step)
        → Reduction P.problem.setting run.entries (IsWithin P.problem) f rest steps
        → Reduction P.problem.setting run.entries (IsWithin P.problem) f rest' steps'
        → (rest ≡ rest') × (steps ≡ steps')
    rest_once f rest rest' steps steps' r r' =
        reduction_unique P.problem.setting field run.entries alive (IsWithin P.problem) r r'
        (record { at = λ y. refl })

    module _ (claim rest : Polynomial) (steps : List Step)
        (r : Reduction P.problem.setting run.entries (IsWithin P.problem) claim rest steps) where
      abbrev multiples : Element
      multiples = step_multiples (labels_of P.problem.setting.prime run.entries) steps

      both : IsIn P.problem.setting multiples (IsWithin P.problem)
          × ((y : Word) → coefficient claim y % P.problem.setting.prime
          ≡ (coefficient (evaluation P.problem.setting multiples) y + coefficient rest y)
          % P.problem.setting.prime)
      both = represents P.problem.setting field run (invariant P.problem field runs).sound
          (IsWithin P.problem) (within_down P.problem)
          (labels_of P.problem.setting.prime run.entries) (labels_hold P.problem field runs).entries
          r

      sum_evaluates : rest ≡ [] → SamePolynomial P.problem.setting
          (evaluation P.problem.setting multiples) claim
      sum_evaluates nothing =
          record {
            at = λ y. sym (both.1 y
                ∙ ap (λ n. n % P.problem.setting.prime)
                (ap (λ (g : Polynomial). coefficient (evaluation P.problem.setting multiples) y
                + coefficient g y) nothing ∙ omega arith));
          }

      -- where nothing is left the claim is represented
      pub is_represented : rest ≡ []
          → HasRepresentation P.problem.setting (IsWithin P.problem) claim
      is_represented nothing = (multiples, both.0, sum_evaluates nothing)

      -- also by the normal form
      module _ (m : List (Term Sig)) (sum : IsSum P.problem.setting multiples m) where
        pub terms_lie : IsIn P.problem.setting (element_of m) (IsWithin P.problem)
        terms_lie σ n =
            both.0 σ (λ z. n (zero_by_same P.problem.setting.prime
            (coefficient_by same_monomial (element_of m) σ)
            (coefficient_by same_monomial multiples σ) (sum.same.at σ) z))

        pub terms_evaluate : rest ≡ []
            → SamePolynomial P.problem.setting (evaluation P.problem.setting (element_of m)) claim
        terms_evaluate nothing =
            record {
              at = λ y. (evaluation_same P.problem.setting some (element_of m) multiples
                  sum.same).at y ∙ (sum_evaluates nothing).at y;
            }

  -- where something is left at a complete end, the claim has no representation
  pub not_represented : (n : ℕ) (run : State) → IsEnd P.problem n run End.complete
      → (claim rest : Polynomial) (steps : List Step)
      → Reduction P.problem.setting run.entries (IsWithin P.problem) claim rest steps → rest ≢ []
      → ¬ HasRepresentation P.problem.setting (IsWithin P.problem) claim
  not_represented n run (IsEnd.is_complete l runs none) claim rest steps r left has =
      left (none_kept P.problem.setting field run (invariant P.problem field runs).sound
      (IsWithin P.problem) (within_down P.problem) (enough_at_end P.problem field runs none).0 r
      has)
