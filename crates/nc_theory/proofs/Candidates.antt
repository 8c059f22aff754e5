-- What holds of each candidate of a program's run, without traces.
use Rattle.nc_algebra.proofs.Primes.{field_from_prime}
use Rattle.nc_algebra.specs.Monomials.{Monomial}
use Rattle.nc_algebra.specs.Primes.{IsField, IsPrime}
use Rattle.nc_algebra.specs.Problems.{IsProblem, NamedProblem, bound_degree, setting_of}
use Rattle.nc_theory.proofs.Reached.{candidate_usable}
use Rattle.nc_theory.proofs.UntracedRuns.{same_run}
use Rattle.nc_theory.proofs.UntracedStates.{SameStates, moved_candidate}
use Rattle.nc_theory.specs.UntracedLaws.{CandidateFacts}
use Rattle.nc_theory.specs.Untraced.{IsNextOfRun, IsRunOf}
use Rattle.nc_theory.proofs.Ends.{source}
use Rattle.nc_theory.specs.Runs.{IsCandidate}
use Rattle.nc_theory.specs.States.{State}
use Rattle.std.proofs.Common.{arith, refl, sym, ℕ, ◌≤◌}

module _ (P : NamedProblem) (is : IsProblem P) (prime : IsPrime P.problem.setting.prime) (n : ℕ)
    (state : State) where
  field : IsField P.problem.setting.prime
  field = field_from_prime P.problem.setting.prime prime

  limit : bound_degree P.problem.setting P.problem.bound ≤ 100000
  limit = omega (arith, is.limited)

  pub candidate_facts : IsRunOf P.problem n state → (τ : Monomial) → IsCandidate P.problem state τ
      → CandidateFacts P.problem state τ
  candidate_facts r τ c = record {
    within = c.0;
    usable =
        candidate_usable (setting_of P) is.setting field P.problem refl limit r.runs τ
        (moved_candidate P.problem state r.run same τ c);
    source = source P.problem field state τ c;
  }
    where
      same : SameStates state r.run
      same = same_run state r.run r.stands

  pub next_facts : (τ : Monomial) → IsNextOfRun P.problem n state τ
      → CandidateFacts P.problem state τ
  next_facts τ r =
      candidate_facts (record { run = r.run; last = r.last; runs = r.runs; stands = r.stands }) τ
      (moved_candidate P.problem r.run state (sym same) τ r.next.candidate)
    where
      same : SameStates state r.run
      same = same_run state r.run r.stands
