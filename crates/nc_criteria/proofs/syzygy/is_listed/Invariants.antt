use Rattle.nc_algebra.specs.Monomials.{monomial_of}
use Rattle.nc_criteria.proofs.Divisors.{NoneListed}
use Rattle.nc_criteria.proofs.syzygy.is_listed.Given as goal

abbrev pub invariant-loop-index : goal.invariant-loop-index
invariant-loop-index l = NoneListed l.snapshot.state.syzygies (monomial_of l.sig) l.after l.index
