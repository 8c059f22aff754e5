-- The lines that prove a claim keep the rule of certificates, and the claim is their value and has
-- a representation.
use Rattle.nc_algebra.specs.Certificates.{AreLines, IsValid}
use Rattle.nc_algebra.specs.Monomials.{Monomial}
use Rattle.nc_algebra.specs.Polynomials.{Polynomial}
use Rattle.nc_algebra.specs.Problems.{IsProblem, IsWithin, NamedProblem, setting_of}
use Rattle.nc_cofactor.specs.Claims.{ListsNeeded, numbers_of}
use Rattle.nc_cofactor.specs.Traces.{IsTraceIn, RunAt}
use Rattle.nc_field.proofs.Primes.{listed_is_prime}
use Rattle.nc_member.proofs.Whole.{proved}
use Rattle.nc_member.specs.Lines.{proof_lines}
use Rattle.nc_snapshot.specs.declared.outcome.Listed.TheVariants.{Entry as EntryOf}
use Rattle.nc_theory.specs.Bases.{HasRepresentation}
use Rattle.nc_theory.specs.Reductions.{Reduction}
use Rattle.nc_theory.specs.Runs.{SequentialRun}
use Rattle.nc_theory.specs.States.{State, Step, Trace}
use Rattle.nc_algebra.specs.Alphabets.{IsPolynomialIn}
use Rattle.std.proofs.Common.{List, Option, [], map, refl, ℕ}
use Rattle.std.specs.List.{All}

-- as `prove` shows of the lines that it gives
pub proof_holds : (P : NamedProblem) → IsProblem P → (n : ℕ) (run : State) (last : Option Monomial)
    → SequentialRun P.problem n run last
    → (claim : Polynomial) (steps : List Step)
    → IsPolynomialIn P.alphabet P.problem.setting.prime claim
    → Reduction P.problem.setting run.entries (IsWithin P.problem) claim [] steps
    → (needed : List (ℕ × Trace)) → ListsNeeded run.entries (numbers_of steps)
    (map (λ x. x.0) needed) → All (λ x. IsTraceIn run (EntryOf x.0) x.1) needed
    → AreLines (setting_of P) [] (proof_lines P.problem.setting.prime needed steps)
    × IsValid P.problem.setting claim (proof_lines P.problem.setting.prime needed steps)
    × HasRepresentation P.problem.setting (IsWithin P.problem) claim
proof_holds P is n run last runs claim steps in_words reduces needed lists traces =
    let at : RunAt P.problem n = record { run = run; last = last; runs = runs } in
    let done =
    proved P is (listed_is_prime P.problem.setting.prime is.setting.prime) n claim in_words
    needed steps (record { at = at; reduces = reduces })
    (record { at = at; lists = lists; traces = traces })
    (proof_lines P.problem.setting.prime needed steps) refl in
    (done.keeps, done.valid, done.has)
