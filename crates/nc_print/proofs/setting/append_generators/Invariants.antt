use Rattle.std.proofs.Common.{◌≡◌, ◌++◌, map, take}
use Rattle.nc_print.specs.Printing.{ended, generator_line}
use Rattle.nc_print.proofs.setting.append_generators.Given as goal

abbrev pub invariant-loop-f : goal.invariant-loop-f
invariant-loop-f l =
    l.out.items ≡ l.initial.out.items
    ++ ended (map (generator_line l.names) (take l.f-index l.generators))
