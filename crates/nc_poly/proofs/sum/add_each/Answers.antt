use Rattle.nc_poly.proofs.Passes.{All-last, adds_step}
use Rattle.std.proofs.Common.{arith, ◌<◌}
use Rattle.nc_poly.proofs.sum.add_each.Goals as goal

pub loop-key-preserved : goal.loop-key-preserved
loop-key-preserved g c =
    let small : c.in-Some.c < c.args.p =
    All-last (λ e. e.1 < c.args.p) c.loop-key.left.items c.pop.new.self.items (
      c.in-Some.key,
      c.in-Some.c,
    ) c.in-Some.ensures.items c.loop-key.invariant.factors in
    adds_step g.met.K.Ord.total c.args.p c.args.pass c.args.map.now.entries c.loop-key.map.entries
    c.add_at.new.map.entries c.args.terms.items c.loop-key.left.items c.pop.new.self.items
    c.in-Some.key c.in-Some.c (omega arith) c.add_at.ensures.ordered c.in-Some.ensures.items
    c.in_ok-add_at.ensures.entries c.loop-key.invariant
