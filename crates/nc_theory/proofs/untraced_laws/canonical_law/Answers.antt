use Rattle.nc_theory.proofs.UntracedEnds.{canonical}
use Rattle.nc_theory.proofs.untraced_laws.canonical_law.Goals as goal

pub returns : goal.returns
returns c P prime n state r = canonical P prime n state r
