use Rattle.std.proofs.Common.{◌≡◌, ◌++◌, map, take, codes}
use Rattle.std.specs.List.{flat_map}
use Rattle.nc_print.specs.Printing.{name_of}
use Rattle.nc_print.proofs.polynomial.append_factors.Given as goal

abbrev pub invariant-loop-letter : goal.invariant-loop-letter
invariant-loop-letter l =
    l.out.items ≡ l.initial.out.items ++ flat_map (λ y. codes "*" ++ y)
    (map (name_of l.names) (take l.letter-index l.letters))
