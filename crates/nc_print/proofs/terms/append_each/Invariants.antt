use Rattle.nc_print.proofs.Writing.{bare}
use Rattle.nc_print.specs.Printing.{ended, term_line}
use Rattle.std.proofs.Common.{map, take, ◌++◌, ◌≡◌}
use Rattle.nc_print.proofs.terms.append_each.Given as goal

abbrev pub invariant-loop-t : goal.invariant-loop-t
invariant-loop-t l =
    l.out.items ≡ l.initial.out.items
    ++ ended (map (λ t. term_line l.names (bare t)) (take l.t-index l.terms))
