use Rattle.nc_poly.proofs.Heaps.{pairs_more}
use Rattle.nc_poly.specs.Ordered.{listed}
use Rattle.std.proofs.Common.{ap, ◌∙◌}
use Rattle.nc_poly.proofs.multiple.push_pairs.Goals as goal

pub loop-t-preserved : goal.loop-t-preserved
loop-t-preserved c =
    pairs_more c.args.p c.args.c c.args.u.now c.args.v.now c.args.g.now
    (listed c.args.out.now.items) c.loop-t.out.items c.push.new.self.items c.loop-t.t-index
    c.t-item.result c.into_pair.result c.loop-t-test.true c.t-item.is c.loop-t.invariant
    c.in_ok-push.ensures.items (c.into_pair.ensures.word ∙ ap (λ t. t.key) c.in_ok-term.ensures)
    (c.into_pair.ensures.coefficient ∙ ap (λ t. t.coefficient) c.in_ok-term.ensures)
