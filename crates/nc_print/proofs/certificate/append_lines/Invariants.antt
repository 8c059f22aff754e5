use Rattle.std.proofs.Common.{◌≡◌, ◌++◌, take}
use Rattle.std.specs.List.{flat_map}
use Rattle.nc_print.specs.Printing.{ended, printed_line}
use Rattle.nc_print.proofs.certificate.append_lines.Given as goal

abbrev pub invariant-loop-line : goal.invariant-loop-line
invariant-loop-line l =
    l.out.items ≡ l.initial.out.items
    ++ ended (flat_map (printed_line l.names) (take l.line-index l.lines))
