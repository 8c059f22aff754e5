-- The whole of an answer: what is left, with its run, and the proof by lines.
use Rattle.nc_algebra.proofs.Primes.{field_from_prime}
use Rattle.nc_algebra.specs.Alphabets.{IsPolynomialIn}
use Rattle.nc_algebra.specs.Certificates.{AreLines, IsValid, Line}
use Rattle.nc_algebra.specs.Elements.{Element, IsIn, evaluation}
use Rattle.nc_algebra.specs.Monomials.{Monomial}
use Rattle.nc_algebra.specs.Polynomials.{Polynomial, coefficient}
use Rattle.nc_algebra.specs.Primes.{IsField, IsPrime}
use Rattle.nc_algebra.specs.Problems.{IsProblem, IsWithin, NamedProblem, Problem, setting_of}
use Rattle.nc_algebra.specs.Words.{Word}
use Rattle.nc_cofactor.proofs.Named.{at_contains}
use Rattle.nc_cofactor.specs.Claims.{AreNeededTraces, numbers_of}
use Rattle.nc_member.proofs.Proved.{lines_prove}
use Rattle.nc_member.proofs.Values.{claim_value, no_value}
use Rattle.nc_member.specs.Lines.{proof_lines}
use Rattle.nc_member.specs.Members.{IsProved, IsRestOf}
use Rattle.nc_theory.proofs.Completeness.{invariant, within_down}
use Rattle.nc_theory.proofs.Determinism.{run_unique}
use Rattle.nc_theory.proofs.Membership.{representation}
use Rattle.nc_theory.specs.Bases.{HasRepresentation}
use Rattle.nc_theory.specs.Reductions.{Reduction}
use Rattle.nc_theory.specs.Runs.{SequentialRun}
use Rattle.nc_theory.specs.States.{State, Step, Trace}
use Rattle.std.proofs.Common.{List, Option, Some, [], ap, arith, map, refl, subst, sym, ℕ, ◌%◌, ◌+◌, ◌∙◌, ◌∷◌, ◌≡◌}
use Rattle.std.specs.List.{slice_get}

module _ (P : Problem) (field : IsField P.setting.prime) {n : ℕ} {run : State}
    {last : Option Monomial} (runs : SequentialRun P n run last) where
  -- what is reduced to zero within the bound has a representation there
  pub zero_represented : {f : Polynomial} {steps : List Step}
      → Reduction P.setting run.entries (IsWithin P) f [] steps
      → HasRepresentation P.setting (IsWithin P) f
  zero_represented {f} reduces =
      go (representation P.setting field run (invariant P field runs).sound (IsWithin P)
      (within_down P) reduces)
    where
      go : (α : Element) × IsIn P.setting α (IsWithin P)
          × ((y : Word) → coefficient f y % P.setting.prime
          ≡ (coefficient (evaluation P.setting α) y + coefficient [] y) % P.setting.prime)
          → HasRepresentation P.setting (IsWithin P) f
      go (α, lies, value) = (
        α,
        lies,
        record {
          at = λ y. sym (value y
              ∙ ap (λ m. m % P.setting.prime) (no_more (coefficient (evaluation P.setting α) y)));
        },
      )
        where
          no_more : (m : ℕ) → m + 0 ≡ m
          no_more m = omega arith

module _ (P : NamedProblem) (is : IsProblem P) (prime : IsPrime P.problem.setting.prime) (n : ℕ)
    (f : Polynomial) (in_it : IsPolynomialIn P.alphabet P.problem.setting.prime f)
    (traces : List (ℕ × Trace)) where
  field : IsField P.problem.setting.prime
  field = field_from_prime P.problem.setting.prime prime

  -- where nothing was subtracted the claim is zero
  zero_claim : (run : State) → Reduction P.problem.setting run.entries (IsWithin P.problem) f [] []
      → IsValid P.problem.setting f []
  zero_claim run reduces = record {
    at = λ y.
        sym
        (claim_value P.problem.setting (omega (arith, field.above_one)) run.entries [] []
        run.entries (λ e c. subst (λ i. slice_get run.entries i ≡ Some e) (omega arith)
        (at_contains run.entries e c)) (IsWithin P.problem) reduces tt y
        ∙ ap (λ m. (m + 0) % P.problem.setting.prime)
        (no_value P.problem.setting (omega (arith, field.above_one)) run.entries [] [] y));
  }

  keeps : (steps : List Step) → IsRestOf P.problem n f [] steps
      → AreNeededTraces P.problem n (numbers_of steps) traces
      → AreLines (setting_of P) [] (proof_lines P.problem.setting.prime traces steps)
      × IsValid P.problem.setting f (proof_lines P.problem.setting.prime traces steps)
  keeps [] rest needs = (tt, zero_claim rest.at.run rest.reduces)
  keeps (step ∷ steps) rest needs =
      let same : rest.at.run ≡ needs.at.run =
      (run_unique P.problem field rest.at.runs needs.at.runs).0 in
      let reduces : Reduction P.problem.setting needs.at.run.entries (IsWithin P.problem) f []
      (step ∷ steps) =
      subst (λ (r : State). Reduction P.problem.setting r.entries (IsWithin P.problem) f []
      (step ∷ steps)) same rest.reduces in
      let done =
      lines_prove P is prime needs.at.runs (numbers_of (step ∷ steps)) (map (λ x. x.0) traces)
      needs.lists f (step ∷ steps) reduces refl in_it traces refl needs.traces in
      (done.keeps, done.value)

  -- the lines prove the claim
  pub proved : (steps : List Step) → IsRestOf P.problem n f [] steps
      → AreNeededTraces P.problem n (numbers_of steps) traces → (lines : List Line)
      → lines ≡ proof_lines P.problem.setting.prime traces steps → IsProved P n f lines
  proved steps rest needs lines e = record {
    steps = steps;
    rest = rest;
    needed = traces;
    traces = needs;
    are = e;
    keeps = subst (AreLines (setting_of P) []) (sym e) (keeps steps rest needs).0;
    valid = subst (IsValid P.problem.setting f) (sym e) (keeps steps rest needs).1;
    has = zero_represented P.problem field rest.at.runs rest.reduces;
  }
