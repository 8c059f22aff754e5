use Rattle.nc_top.proofs.Checked as lemmas
use Rattle.nc_top.proofs.members_check.Goals as goal

pub returns : goal.returns
returns c = lemmas.members_check
