use Rattle.nc_overlap.proofs.Sides.{multiple_fits}
use Rattle.std.proofs.Common.{arith}
use Rattle.nc_overlap.proofs.side.Side.make.Goals as goal

pub times-requires-clause-degree : goal.times-requires-clause-degree
times-requires-clause-degree c =
    let fits =
    multiple_fits c.args.problem.now c.args.self.now.left.now c.args.self.now.right.now
    c.args.self.now.sig.now c.recall_rule.ensures.problem c.requires.degree c.requires.within in
    omega (arith, fits.0)

pub times-requires-clause-left : goal.times-requires-clause-left
times-requires-clause-left c =
    let fits =
    multiple_fits c.args.problem.now c.args.self.now.left.now c.args.self.now.right.now
    c.args.self.now.sig.now c.recall_rule.ensures.problem c.requires.degree c.requires.within in
    omega (arith, fits.1)

pub times-requires-clause-right : goal.times-requires-clause-right
times-requires-clause-right c =
    let fits =
    multiple_fits c.args.problem.now c.args.self.now.left.now c.args.self.now.right.now
    c.args.self.now.sig.now c.recall_rule.ensures.problem c.requires.degree c.requires.within in
    omega (arith, fits.2)
