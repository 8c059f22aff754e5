use Rattle.nc_overlap.specs.Overlaps.{AddsAmbiguities, IsLedBy}
use Rattle.nc_theory.proofs.Indexed.{Before, OfEntry}
use Rattle.nc_theory.specs.Meetings.{MeetSomewhere}
use Rattle.nc_theory.specs.States.{Entry}
use Rattle.std.proofs.Common.{map, ◌⊎◌}
use Rattle.std.specs.Arc.{arc_value}
use Rattle.nc_overlap.proofs.found.add_entries.Given as goal

abbrev pub invariant-loop-index : goal.invariant-loop-index
invariant-loop-index l = (new : Entry) → IsLedBy l.snapshot.problem.problem.setting l.new new
    → AddsAmbiguities l.snapshot.problem.problem
    (Before (OfEntry l.snapshot.state.entries
    (λ e ρ. MeetSomewhere l.snapshot.problem.problem.setting e new ρ
    ⊎ MeetSomewhere l.snapshot.problem.problem.setting new e ρ)) l.index)
    (map arc_value l.initial.found.items) (map arc_value l.found.items)
