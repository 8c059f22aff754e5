use Rattle.nc_index.proofs.Chosen.{newer}
use Rattle.nc_index.proofs.newer_leads_law.Goals as goal

pub returns : goal.returns
returns c s entries n w β = newer s (c.sig_law.ensures s) entries w β n
