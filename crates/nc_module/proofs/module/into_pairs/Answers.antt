use Rattle.nc_poly.proofs.Heaps.{listed_more}
use Rattle.std.proofs.Common.{[]}
use Rattle.nc_module.proofs.module.into_pairs.Goals as goal

pub loop-term-preserved : goal.loop-term-preserved
loop-term-preserved c =
    listed_more [] c.loop-term.yielded c.loop-term.pairs.items c.push.new.self.items c.in-Some.term
    c.into_pair.result c.loop-term.invariant c.in_ok-push.ensures.items c.into_pair.ensures.at
    c.into_pair.ensures.coefficient
