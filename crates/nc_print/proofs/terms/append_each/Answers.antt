use Rattle.nc_print.proofs.Writing.{bare, bare_end, written_more}
use Rattle.nc_print.specs.Printing.{ended, term_line}
use Rattle.std.proofs.Common.{arith}
use Rattle.nc_print.proofs.terms.append_each.Goals as goal

pub loop-t-preserved : goal.loop-t-preserved
loop-t-preserved c =
    written_more (λ t. term_line c.args.names.now (bare t)) _ c.loop-t.t-index _ _ _ _ (omega arith)
    c.t-item.is c.loop-t.invariant c.in_ok-append_term.ensures.text

pub returns-clause-text : goal.returns-clause-text
returns-clause-text c =
    bare_end (term_line c.args.names.now) ended _ c.loop-t.t-index _ _ (omega arith)
    c.loop-t.invariant
