use Rattle.nc_algebra.specs.Monomials.{monomial_of}
use Rattle.nc_criteria.specs.Searches.{IsBestBetween, found_of}
use Rattle.std.proofs.Common.{option_map}
use Rattle.nc_criteria.proofs.multiple.best_between.Given as goal

abbrev pub invariant-loop-index : goal.invariant-loop-index
invariant-loop-index l =
    IsBestBetween l.snapshot.problem.problem.setting l.snapshot.state.entries (monomial_of l.sig)
    l.after l.index (option_map found_of l.best)
