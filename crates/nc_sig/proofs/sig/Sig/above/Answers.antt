use Rattle.nc_algebra.proofs.Monomials.{below_above_degree}
use Rattle.nc_algebra.specs.Elements.{generator_weight}
use Rattle.nc_algebra.specs.Monomials.{sig_of}
use Rattle.nc_sig.proofs.sig.Sig.above.Goals as goal

pub returns-clause-bound : goal.returns-clause-bound
returns-clause-bound c =
    rw (c.empty.ensures, c.empty-2.ensures)
    (record { below = λ s σ. below_above_degree c.args.degree (sig_of (generator_weight s) σ) })
