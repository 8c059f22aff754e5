-- What the searches for reducers read, beside a snapshot: leading word and signature of each of its
-- entries.
use Rattle.nc_index.specs.Chosen.{leads_of}
use Rattle.nc_index.specs.Pairs.{Lead}
use Rattle.nc_snapshot.specs.Snapshots.{Snapshot}
use Rattle.std.specs.Prelude.{List, ◌≡◌}

-- the leads are those of the snapshot's entries
abbrev pub LeadsOf : Snapshot → List Lead → Type 0
LeadsOf s leads = leads ≡ leads_of s.problem.problem.setting s.state.entries
