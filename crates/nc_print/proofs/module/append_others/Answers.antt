use Rattle.nc_print.proofs.Writing.{bare_end}
use Rattle.nc_print.specs.Printing.{module_term_text}
use Rattle.std.proofs.Common.{arith, codes, ◌++◌}
use Rattle.std.specs.List.{flat_map}
use Rattle.nc_print.proofs.module.append_others.Goals as goal

pub returns-clause-text : goal.returns-clause-text
returns-clause-text c =
    bare_end (module_term_text c.args.names.now) (flat_map (λ y. codes " + " ++ y)) _
    c.loop-t.t-index _ _ (omega arith) c.loop-t.invariant
