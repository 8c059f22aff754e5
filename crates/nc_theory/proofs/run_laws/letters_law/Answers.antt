use Rattle.nc_algebra.proofs.Primes.{field_from_prime}
use Rattle.nc_algebra.specs.Finite.{IsOver}
use Rattle.nc_algebra.specs.Primes.{IsField}
use Rattle.nc_theory.proofs.Completeness.{invariant}
use Rattle.nc_theory.proofs.Steps.{candidate_over, divisor_over, run_over, syzygies_are}
use Rattle.nc_theory.proofs.run_laws.letters_law.Goals as goal

pub returns : goal.returns
returns c P prime letters inputs n state last run = (
  run_over P field letters inputs run,
  syzygies_are P (λ σ. IsOver letters σ.left × IsOver letters σ.right)
      (λ k before since r. candidate_over P field letters inputs before
      (invariant P field r).sound.nonzero (run_over P field letters inputs r)) run,
  candidate_over P field letters inputs state (invariant P field run).sound.nonzero
      (run_over P field letters inputs run),
  divisor_over P.setting letters inputs state.entries (invariant P field run).sound.nonzero
      (run_over P field letters inputs run),
)
  where
    field : IsField P.setting.prime
    field = field_from_prime P.setting.prime prime
