use Rattle.nc_top.proofs.Answers as lemmas
use Rattle.nc_top.proofs.complete_members.Goals as goal

pub returns : goal.returns
returns c = lemmas.complete_members
