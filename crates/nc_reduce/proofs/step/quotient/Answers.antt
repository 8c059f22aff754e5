use Rattle.nc_theory.proofs.Products.{quotient_is}
use Rattle.nc_reduce.proofs.step.quotient.Goals as goal

pub returns-clause-quotient : goal.returns-clause-quotient
returns-clause-quotient c =
    quotient_is c.args.p c.args.a c.args.b c.inverse.result c.mul.result c.requires.first
    c.inverse.ensures.inverse c.mul.ensures.value
