use Rattle.nc_index.proofs.Chosen.{chosen}
use Rattle.nc_index.proofs.leads_law.Goals as goal

pub returns : goal.returns
returns c s entries w β answer first = chosen s (c.sig_law.ensures s) entries w β answer first
