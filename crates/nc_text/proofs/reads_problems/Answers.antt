use Rattle.nc_text.proofs.ReadProblems as lemmas
use Rattle.nc_text.proofs.reads_problems.Goals as goal

pub returns : goal.returns
returns c = lemmas.reads_problems
