use Rattle.nc_member.specs.Found.{trace_lines}
use Rattle.std.proofs.Common.{take, ◌++◌, ◌≡◌}
use Rattle.nc_member.proofs.lines.push_entries.Given as goal

abbrev pub invariant-loop-trace : goal.invariant-loop-trace
invariant-loop-trace l =
    l.lines ≡ l.initial.lines ++ trace_lines l.p l.entries (take l.trace-index l.needed)
