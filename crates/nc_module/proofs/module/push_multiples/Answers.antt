use Rattle.nc_algebra.specs.Monomials.{sig_times}
use Rattle.nc_module.proofs.Modules.{moved_more}
use Rattle.nc_poly.specs.Ordered.{listed}
use Rattle.nc_module.proofs.module.push_multiples.Goals as goal

pub loop-t-preserved : goal.loop-t-preserved
loop-t-preserved c =
    moved_more c.args.m.now (listed c.args.out.now.items) c.loop-t.out.items c.push.new.self.items
    c.loop-t.t-index c.t-item.result c.in_ok-multiple.field-0 c.loop-t-test.true c.t-item.is
    c.in_ok-push.ensures.items c.args.p c.args.c (λ σ. sig_times c.args.u.now σ c.args.v.now)
    c.loop-t.invariant c.in_ok-multiple.ensures.at c.in_ok-multiple.ensures.coefficient
