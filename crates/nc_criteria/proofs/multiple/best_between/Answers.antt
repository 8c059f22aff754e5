use Rattle.nc_algebra.specs.Monomials.{monomial_of}
use Rattle.nc_criteria.proofs.Best.{best_further}
use Rattle.nc_criteria.specs.Searches.{IsBestBetween, found_of}
use Rattle.nc_theory.specs.Best.{IsMultipleAt}
use Rattle.std.proofs.Common.{arith, option_map, subst, sym, ◌+◌, ◌-◌, ◌≡◌}
use Rattle.nc_criteria.proofs.multiple.best_between.Goals as goal

pub loop-index-preserved : goal.loop-index-preserved
loop-index-preserved c =
    let same : c.loop-index.index + 1 - 1 ≡ c.loop-index.index = omega arith in
    subst (IsBestBetween c.args.snapshot.now.problem.problem.setting
    c.args.snapshot.now.state.entries (monomial_of c.args.sig.now) c.args.after
    (c.loop-index.index + 1)) (sym c.better-best.ensures)
    (best_further c.args.snapshot.now.problem.problem.setting c.args.snapshot.now.state.entries
    (monomial_of c.args.sig.now) c.args.after c.loop-index.index
    (option_map found_of c.loop-index.best) (option_map found_of c.multiple_of.result)
    c.loop-index.auto.index c.loop-index.invariant
    (subst (λ k. IsMultipleAt c.args.snapshot.now.problem.problem.setting
    c.args.snapshot.now.state.entries (monomial_of c.args.sig.now) k
    (option_map found_of c.multiple_of.result)) same c.multiple_of.ensures))

pub returns : goal.returns
returns c =
    let same : c.loop-index.index ≡ c.args.until = omega (arith, c.requires.some) in
    subst (λ n. IsBestBetween c.args.snapshot.now.problem.problem.setting
    c.args.snapshot.now.state.entries (monomial_of c.args.sig.now) c.args.after n
    (option_map found_of c.loop-index.best)) same c.loop-index.invariant
