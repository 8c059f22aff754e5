use Rattle.nc_theory.proofs.UntracedEnds.{end_facts}
use Rattle.nc_theory.proofs.untraced_laws.end_facts.Goals as goal

pub returns : goal.returns
returns c P prime n state ending e = end_facts P prime n state ending e
