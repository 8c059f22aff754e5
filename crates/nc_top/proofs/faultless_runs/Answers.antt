use Rattle.nc_top.proofs.Answers as lemmas
use Rattle.nc_top.proofs.faultless_runs.Goals as goal

pub returns : goal.returns
returns c = lemmas.faultless_runs
