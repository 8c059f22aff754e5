use Rattle.nc_theory.proofs.Apart.{from_apart, to_apart}
use Rattle.nc_theory.proofs.run_laws.trivial_syzygy_law.Goals as goal

pub returns : goal.returns
returns c s entries τ = (λ t. to_apart s entries τ t.0 t.1 t.2, from_apart s entries τ)
