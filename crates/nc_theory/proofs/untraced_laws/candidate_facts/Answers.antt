use Rattle.nc_theory.proofs.Candidates.{candidate_facts}
use Rattle.nc_theory.proofs.untraced_laws.candidate_facts.Goals as goal

pub returns : goal.returns
returns c P is prime n state r τ k = candidate_facts P is prime n state r τ k
