use Rattle.nc_words.proofs.Comparisons.{weight_of_three}
use Rattle.std.proofs.Common.{arith}
use Rattle.nc_words.proofs.joined.Joined.weight.Goals as goal

pub returns : goal.returns
returns c =
    omega (
      arith,
      weight_of_three c.args.self.now.first.now c.args.self.now.second.now
          c.args.self.now.third.now,
      c.weight_of.ensures.weight,
      c.weight_of-2.ensures.weight,
      c.weight_of-3.ensures.weight,
    )
