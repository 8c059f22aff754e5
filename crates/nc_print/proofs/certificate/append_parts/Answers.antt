use Rattle.std.proofs.Common.{arith}
use Rattle.nc_print.proofs.Writing.{written_more}
use Rattle.nc_print.specs.Printing.{part_line}
use Rattle.nc_print.proofs.certificate.append_parts.Goals as goal

pub loop-part-preserved : goal.loop-part-preserved
loop-part-preserved c =
    written_more (part_line c.args.names.now) c.args.parts.now c.loop-part.part-index
    c.part-item.result c.args.out.now.items c.loop-part.out.items _ (omega arith) c.part-item.is
    c.loop-part.invariant c.in_ok-append_part.ensures.text
