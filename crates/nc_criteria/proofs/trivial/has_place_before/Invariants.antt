use Rattle.nc_criteria.proofs.Sides.{NoneBefore}
use Rattle.std.proofs.Common.{length, ◌+◌, ◌-◌, ◌≤◌}
use Rattle.nc_criteria.proofs.trivial.has_place_before.Given as goal

abbrev pub invariant-loop-at : goal.invariant-loop-at
invariant-loop-at l = (l.from ≤ length l.before + 1) × NoneBefore l.own l.other l.before l.from

abbrev pub decreases-loop-at : goal.decreases-loop-at
decreases-loop-at l = length l.before + 1 - l.from
