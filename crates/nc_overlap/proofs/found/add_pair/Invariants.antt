use Rattle.nc_overlap.specs.Overlaps.{AddsAmbiguities, IsLedBy}
use Rattle.nc_theory.proofs.Indexed.{Before}
use Rattle.nc_theory.specs.Meetings.{MeetAt}
use Rattle.nc_theory.specs.States.{Entry}
use Rattle.std.proofs.Common.{map}
use Rattle.std.specs.Arc.{arc_value}
use Rattle.nc_overlap.proofs.found.add_pair.Given as goal

abbrev pub invariant-loop-at : goal.invariant-loop-at
invariant-loop-at l =
    (e f : Entry) → IsLedBy l.problem.problem.setting l.first e
    → IsLedBy l.problem.problem.setting l.second f
    → AddsAmbiguities l.problem.problem (Before (MeetAt l.problem.problem.setting e f) l.at)
    (map arc_value l.initial.found.items) (map arc_value l.found.items)
