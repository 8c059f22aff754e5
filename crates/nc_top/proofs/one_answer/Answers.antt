use Rattle.nc_top.proofs.Answers as lemmas
use Rattle.nc_top.proofs.one_answer.Goals as goal

pub returns : goal.returns
returns c = lemmas.one_answer
