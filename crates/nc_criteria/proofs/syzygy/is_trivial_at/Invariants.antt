use Rattle.nc_algebra.specs.Monomials.{monomial_of}
use Rattle.nc_criteria.proofs.Pairs.{NonePair}
use Rattle.std.proofs.Common.{◌-◌}
use Rattle.nc_criteria.proofs.syzygy.is_trivial_at.Given as goal

abbrev pub invariant-loop-index : goal.invariant-loop-index
invariant-loop-index l =
    NonePair l.snapshot.problem.problem.setting l.snapshot.state.entries (monomial_of l.sig)
    l.from (l.number - 1) l.index
