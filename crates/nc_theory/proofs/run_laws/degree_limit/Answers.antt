use Rattle.nc_algebra.proofs.Degrees.{labelled_limited}
use Rattle.nc_algebra.proofs.Primes.{field_from_prime}
use Rattle.nc_algebra.specs.Elements.{Element, IsLabelled, WeighsAtMost, generator_weight}
use Rattle.nc_algebra.specs.Monomials.{Monomial, degree_of}
use Rattle.nc_algebra.specs.Primes.{IsField}
use Rattle.nc_algebra.specs.Problems.{Problem}
use Rattle.nc_theory.proofs.Completeness.{invariant}
use Rattle.nc_theory.specs.Runs.{SequentialRun}
use Rattle.nc_theory.specs.States.{Entry, State}
use Rattle.nc_theory.proofs.Limits.{limited}
use Rattle.std.proofs.Common.{Contains, Option, ℕ}
use Rattle.nc_theory.proofs.run_laws.degree_limit.Goals as goal

entry_limited : (P : Problem) → IsField P.setting.prime
    → {n : ℕ} {state : State} {last : Option Monomial} → SequentialRun P n state last → (e : Entry)
    → Contains state.entries e → WeighsAtMost P.setting
    (degree_of (generator_weight P.setting) e.signature) e.polynomial
entry_limited P field run e k = go ((invariant P field run).sound.entries e k)
  where
    go : (α : Element) × IsLabelled P.setting e.signature e.polynomial α
        → WeighsAtMost P.setting (degree_of (generator_weight P.setting) e.signature) e.polynomial
    go (α, l) = labelled_limited P.setting e.signature e.polynomial α l

pub returns : goal.returns
returns c P prime n state last run = (
  entry_limited P (field_from_prime P.setting.prime prime) run,
  limited P.setting (field_from_prime P.setting.prime prime) state.entries
      (invariant P (field_from_prime P.setting.prime prime) run).sound.entries,
)
