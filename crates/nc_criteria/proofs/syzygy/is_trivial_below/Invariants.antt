use Rattle.nc_algebra.specs.Monomials.{monomial_of}
use Rattle.nc_criteria.proofs.Pairs.{NoneAt}
use Rattle.nc_criteria.proofs.syzygy.is_trivial_below.Given as goal

abbrev pub invariant-loop-index : goal.invariant-loop-index
invariant-loop-index l =
    NoneAt l.snapshot.problem.problem.setting l.snapshot.state.entries (monomial_of l.sig) l.after
    l.index
