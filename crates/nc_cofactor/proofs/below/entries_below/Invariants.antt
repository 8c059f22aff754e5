use Rattle.nc_algebra.specs.Monomials.{monomial_of}
use Rattle.nc_cofactor.proofs.Lesser.{IsLesserTo, IsOtherFrom}
use Rattle.std.proofs.Common.{length, ◌-◌, ◌≤◌}
use Rattle.nc_cofactor.proofs.below.entries_below.Given as goal

abbrev pub invariant-halves : goal.invariant-halves
invariant-halves l = record {
  order : l.low ≤ l.high;
  few : l.high ≤ length l.snapshot.state.entries;
  lesser : IsLesserTo l.snapshot.problem.problem.setting l.snapshot.state.entries
      (monomial_of l.sig) l.low;
  others : IsOtherFrom l.snapshot.problem.problem.setting l.snapshot.state.entries
      (monomial_of l.sig) l.high;
}

abbrev pub decreases-halves : goal.decreases-halves
decreases-halves l = l.high - l.low
