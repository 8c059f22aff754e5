use Rattle.nc_print.proofs.Writing.{bare}
use Rattle.nc_print.specs.Printing.{module_term_text}
use Rattle.std.proofs.Common.{codes, map, take, ◌++◌, ◌≡◌}
use Rattle.std.specs.List.{flat_map}
use Rattle.nc_print.proofs.module.append_others.Given as goal

abbrev pub invariant-loop-t : goal.invariant-loop-t
invariant-loop-t l =
    l.out.items ≡ l.initial.out.items ++ flat_map (λ y. codes " + " ++ y)
    (map (λ t. module_term_text l.names (bare t)) (take l.t-index l.terms))
