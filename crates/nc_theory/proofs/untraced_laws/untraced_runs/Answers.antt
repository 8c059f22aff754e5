use Rattle.nc_theory.proofs.UntracedRuns.{untraced_runs}
use Rattle.nc_theory.proofs.untraced_laws.untraced_runs.Goals as goal

pub returns : goal.returns
returns c P = untraced_runs P
