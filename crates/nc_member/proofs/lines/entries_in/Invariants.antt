use Rattle.nc_member.specs.Found.{entries_of}
use Rattle.std.proofs.Common.{take, ◌≡◌}
use Rattle.nc_member.proofs.lines.entries_in.Given as goal

abbrev pub invariant-loop-number : goal.invariant-loop-number
invariant-loop-number l = l.entries.items ≡ entries_of (take l.number-index l.needed)
