use Rattle.nc_theory.proofs.Snapshots.{facts}
use Rattle.nc_theory.proofs.untraced_laws.snapshot_facts.Goals as goal

pub returns : goal.returns
returns c P is prime n state r = facts P is prime n state r
