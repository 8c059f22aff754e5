use Rattle.std.proofs.Common.{arith}
use Rattle.nc_print.proofs.Writing.{written_more}
use Rattle.nc_print.specs.Printing.{generator_line}
use Rattle.nc_print.proofs.setting.append_generators.Goals as goal

pub loop-f-preserved : goal.loop-f-preserved
loop-f-preserved c =
    written_more (generator_line c.args.names.now) c.args.generators.now c.loop-f.f-index
    c.f-item.result c.args.out.now.items c.loop-f.out.items _ (omega arith) c.f-item.is
    c.loop-f.invariant c.in_ok-append_poly_line.ensures.text
