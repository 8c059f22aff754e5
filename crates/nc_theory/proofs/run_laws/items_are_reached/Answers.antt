use Rattle.nc_algebra.proofs.Primes.{field_from_prime}
use Rattle.nc_algebra.specs.Primes.{IsField}
use Rattle.nc_algebra.specs.Problems.{IsWithin}
use Rattle.nc_theory.proofs.Completeness.{invariant, reached_less}
use Rattle.nc_theory.proofs.Rebuilding.{rebuilt}
use Rattle.nc_theory.proofs.Steps.{syzygies_are}
use Rattle.nc_theory.proofs.run_laws.items_are_reached.Goals as goal

pub returns : goal.returns
returns c P prime n state last run = (
  (λ e k. (
    (invariant P field run).within e k,
    λ τ a. reached_less P last e.signature τ ((invariant P field run).below_last e k) a,
  )),
  (λ h k. (
    syzygies_are P (IsWithin P) (λ k before since r σ d. d.0) run h k,
    λ τ a. reached_less P last h.signature τ ((rebuilt P field run).reached h k) a,
  )),
)
  where
    field : IsField P.setting.prime
    field = field_from_prime P.setting.prime prime
