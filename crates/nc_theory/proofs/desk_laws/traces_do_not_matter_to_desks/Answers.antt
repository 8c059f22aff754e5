use Rattle.nc_theory.proofs.UntracedDesks.{same_events}
use Rattle.nc_theory.proofs.desk_laws.traces_do_not_matter_to_desks.Goals as goal

pub returns : goal.returns
returns c P d = same_events P d
