use Rattle.std.proofs.Common.{◌≡◌, ◌++◌, map, take}
use Rattle.nc_print.specs.Printing.{ended, part_line}
use Rattle.nc_print.proofs.certificate.append_parts.Given as goal

abbrev pub invariant-loop-part : goal.invariant-loop-part
invariant-loop-part l =
    l.out.items ≡ l.initial.out.items ++ ended (map (part_line l.names) (take l.part-index l.parts))
