use Rattle.std.proofs.Common.{◌≡◌, ◌++◌, map, take, codes}
use Rattle.std.specs.List.{flat_map}
use Rattle.nc_print.specs.Printing.{term_text}
use Rattle.nc_print.proofs.polynomial.append_others.Given as goal

abbrev pub invariant-loop-t : goal.invariant-loop-t
invariant-loop-t l =
    l.out.items ≡ l.initial.out.items ++ flat_map (λ y. codes " + " ++ y)
    (map (term_text l.names) (take l.t-index l.terms))
