use Rattle.nc_module.proofs.Modules.{copies_more}
use Rattle.nc_poly.specs.Ordered.{listed}
use Rattle.nc_module.proofs.module.push_copies.Goals as goal

pub loop-t-preserved : goal.loop-t-preserved
loop-t-preserved c =
    copies_more c.args.terms.now (listed c.args.out.now.items) c.loop-t.out.items
    c.push.new.self.items c.loop-t.t-index c.t-item.result c.in_ok-pair.field-0 c.loop-t-test.true
    c.t-item.is c.in_ok-push.ensures.items c.loop-t.invariant c.in_ok-pair.ensures.at
    c.in_ok-pair.ensures.coefficient
