use Rattle.nc_algebra.specs.Words.{compare_words}
use Rattle.nc_poly.proofs.Heaps.{next_term}
use Rattle.nc_poly.specs.Ordered.{AllBelow}
use Rattle.std.proofs.Common.{subst, sym, ◌<◌}
use Rattle.nc_poly.proofs.heap.fill.Goals as goal

pub push_greatest-requires-clause-some : goal.push_greatest-requires-clause-some
push_greatest-requires-clause-some c =
    let next =
    next_term c.args.terms.items c.loop-term.left.items c.pop.new.self.items c.loop-term.sum
    c.in-Some.term c.requires.descending c.loop-term.invariant c.in-Some.ensures.items in
    subst (λ n. 0 < n) (sym c.into_pair-word.ensures.coefficient) next.0

pub push_greatest-requires-clause-greatest : goal.push_greatest-requires-clause-greatest
push_greatest-requires-clause-greatest c =
    let next =
    next_term c.args.terms.items c.loop-term.left.items c.pop.new.self.items c.loop-term.sum
    c.in-Some.term c.requires.descending c.loop-term.invariant c.in-Some.ensures.items in
    subst (λ w. AllBelow compare_words w c.loop-term.sum) (sym c.into_pair-word.ensures.word) next.1
