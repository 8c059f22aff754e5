use Rattle.nc_algebra.specs.Monomials.{monomial_of}
use Rattle.nc_criteria.proofs.Divisors.{all_newer}
use Rattle.nc_criteria.proofs.syzygy.syzygy_divides.Goals as goal

pub returns : goal.returns
returns c =
    let all =
    all_newer c.args.snapshot.now.problem.problem.setting c.args.snapshot.now.state
    (monomial_of c.args.sig.now) in (
      λ t. all.0 (c.syzygy_divides_after.ensures.0 t),
      λ h. c.syzygy_divides_after.ensures.1 (all.1 h),
    )
