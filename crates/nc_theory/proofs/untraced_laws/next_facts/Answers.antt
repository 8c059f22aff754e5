use Rattle.nc_theory.proofs.Candidates.{next_facts}
use Rattle.nc_theory.proofs.untraced_laws.next_facts.Goals as goal

pub returns : goal.returns
returns c P is prime n state τ r = next_facts P is prime n state τ r
