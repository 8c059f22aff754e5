-- What is left of a claim at the end of a run, and what that says.
use Rattle.nc_algebra.proofs.Elements.{coefficient-evaluation, image}
use Rattle.nc_algebra.proofs.Monomials.{monomial_laws}
use Rattle.nc_algebra.proofs.Sums.{linear_sum_same}
use Rattle.nc_algebra.specs.Elements.{Element, IsIn, IsLess, SamePolynomial, Setting, evaluation, generator_weight}
use Rattle.nc_algebra.specs.Monomials.{Monomial, Sig, same_monomial}
use Rattle.nc_algebra.specs.Polynomials.{Polynomial, coefficient}
use Rattle.nc_algebra.specs.Primes.{IsField}
use Rattle.nc_algebra.specs.Problems.{IsProblem, IsWithin, NamedProblem, Problem}
use Rattle.nc_algebra.specs.Sums.{SameSum, Term}
use Rattle.nc_algebra.specs.Words.{Word}
use Rattle.nc_cofactor.proofs.Labelled.{problem_field}
use Rattle.nc_cofactor.proofs.Runs.{run_at}
use Rattle.nc_cofactor.specs.Claims.{IsRepresentation}
use Rattle.nc_member.specs.Members.{IsOpen, IsRepresented, IsRestOf, IsUnrepresented}
use Rattle.nc_module.specs.Modules.{element_of}
use Rattle.nc_theory.proofs.Untraced.{moved_reduction}
use Rattle.nc_theory.proofs.UntracedRuns.{same_run}
use Rattle.nc_theory.proofs.UntracedStates.{same_entries}
use Rattle.nc_theory.specs.Untraced.{IsEndOf, IsRunOf}
use Rattle.nc_theory.proofs.Completeness.{enough_at_end, invariant, within_down}
use Rattle.nc_theory.proofs.Determinism.{run_unique}
use Rattle.nc_theory.proofs.Membership.{none_kept, represents}
use Rattle.nc_theory.proofs.Traces.{labels_hold}
use Rattle.nc_theory.specs.Bases.{HasRepresentation}
use Rattle.nc_theory.specs.Labels.{labels_of, step_multiples}
use Rattle.nc_theory.specs.Reductions.{Reduction}
use Rattle.nc_theory.specs.Runs.{End, IsEnd}
use Rattle.nc_theory.specs.States.{State, Step}
use Rattle.std.proofs.Common.{List, [], ap, arith, subst, sym, ℕ, ◌%◌, ◌+◌, ◌<◌, ◌∙◌, ◌≡◌, ◌≢◌}

-- ---- what is left

-- a reduction by the entries of the state is one by those of the run
pub rest_at : (P : Problem) (n : ℕ) (state : State) → IsRunOf P n state
    → (f rest : Polynomial) (steps : List Step)
    → Reduction P.setting state.entries (IsWithin P) f rest steps → IsRestOf P n f rest steps
rest_at P n state is f rest steps r =
    record {
      at = run_at is;
      reduces = moved_reduction P.setting state.entries is.run.entries
          (same_entries state is.run (same_run state is.run is.stands)) (IsWithin P) r;
    }

-- ---- a representation

evaluation_same : (s : Setting) → 0 < s.prime → (α β : Element) → SameSum same_monomial s.prime α β
    → SamePolynomial s (evaluation s α) (evaluation s β)
evaluation_same s positive α β same = record {
  at = λ y. ap (λ n. n % s.prime) (coefficient-evaluation s α y)
      ∙ (linear_sum_same same_monomial (IsLess s) (monomial_laws (generator_weight s)) s.prime
      (image s y) α β positive same ∙ ap (λ n. n % s.prime) (sym (coefficient-evaluation s β y)));
}

module _ (P : NamedProblem) (is : IsProblem P) (n : ℕ) (f : Polynomial) (steps : List Step)
    (rest : IsRestOf P.problem n f [] steps) where
  field : IsField P.problem.setting.prime
  field = problem_field P is

  -- the sum of the labels represents the claim
  pub represented : (limit : ℕ) (m : List (Term Sig)) → IsRepresentation P.problem n steps limit m
      → IsRepresented P.problem n f limit m
  represented limit m r =
      record {
        steps = steps;
        rest = rest;
        is = r;
        lies = lies;
        evaluates = record {
          at = λ y. (evaluation_same P.problem.setting (omega (arith, field.above_one))
              (element_of m) whole r.is.same).at y
              ∙ sym (law.1 y ∙ ap (λ k. k % P.problem.setting.prime)
              (no_more (coefficient (evaluation P.problem.setting whole) y)));
        };
      }
    where
      same : rest.at.run ≡ r.at.run
      same = (run_unique P.problem field rest.at.runs r.at.runs).0

      whole : Element
      whole = step_multiples (labels_of P.problem.setting.prime r.at.run.entries) steps

      law : IsIn P.problem.setting whole (IsWithin P.problem)
          × ((y : Word) → coefficient f y % P.problem.setting.prime
          ≡ (coefficient (evaluation P.problem.setting whole) y + coefficient [] y)
          % P.problem.setting.prime)
      law = represents P.problem.setting field r.at.run (invariant P.problem field r.at.runs).sound
          (IsWithin P.problem) (within_down P.problem)
          (labels_of P.problem.setting.prime r.at.run.entries)
          (labels_hold P.problem field r.at.runs).entries
          (subst (λ (x : State). Reduction P.problem.setting x.entries (IsWithin P.problem) f []
          steps) same rest.reduces)

      lies : IsIn P.problem.setting (element_of m) (IsWithin P.problem)
      lies σ nz = law.0 σ (λ z. nz (r.is.same.at σ ∙ z))

      no_more : (k : ℕ) → k + 0 ≡ k
      no_more k = omega arith

-- ---- the end

module _ (P : NamedProblem) (is : IsProblem P) (n : ℕ) (state : State) (f kept : Polynomial)
    (steps : List Step) (some : kept ≢ []) (rest : IsRestOf P.problem n f kept steps) where
  -- at a complete end what has a representation leaves nothing
  nothing_left : {run : State} → IsEnd P.problem n run End.complete
      → HasRepresentation P.problem.setting (IsWithin P.problem) f → ⊥
  nothing_left (IsEnd.is_complete low runs none) has =
      let field : IsField P.problem.setting.prime = problem_field P is in
      let same = (run_unique P.problem field rest.at.runs runs).0 in
      some (none_kept P.problem.setting field _ (invariant P.problem field runs).sound
      (IsWithin P.problem) (within_down P.problem) (enough_at_end P.problem field runs none).0
      (subst (λ (x : State). Reduction P.problem.setting x.entries (IsWithin P.problem) f kept
      steps) same rest.reduces) has)

  pub unrepresented : (ending : End) → IsEndOf P.problem n state ending → ending ≡ End.complete
      → IsUnrepresented P.problem n ending f kept
  unrepresented ending ends e =
      record {
        complete = e;
        some = some;
        steps = steps;
        is = rest;
        none = nothing_left {run = ends.run}
            (subst (IsEnd P.problem n ends.run) e ends.ends);
      }

  pub undecided : (ending : End) (next : Monomial) → ending ≡ End.budget next
      → IsOpen P.problem n ending f kept
  undecided ending next e =
      record { next = next; budget = e; some = some; steps = steps; is = rest }
