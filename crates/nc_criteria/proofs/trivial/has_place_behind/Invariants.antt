use Rattle.nc_criteria.proofs.Sides.{NoneBehind}
use Rattle.std.proofs.Common.{length, ◌+◌, ◌-◌, ◌≤◌}
use Rattle.nc_criteria.proofs.trivial.has_place_behind.Given as goal

abbrev pub invariant-loop-at : goal.invariant-loop-at
invariant-loop-at l = (l.from ≤ length l.behind + 1) × NoneBehind l.own l.other l.behind l.from

abbrev pub decreases-loop-at : goal.decreases-loop-at
decreases-loop-at l = length l.behind + 1 - l.from
