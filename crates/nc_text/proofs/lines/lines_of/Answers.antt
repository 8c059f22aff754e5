use Rattle.nc_tokens.proofs.Repeated.{fewer}
use Rattle.std.proofs.Common.{arith}
use Rattle.nc_text.proofs.lines.lines_of.Goals as goal

pub parts_of-requires : goal.parts_of-requires
parts_of-requires c = omega (arith, fewer _ _ _ c.in-Some.ensures, c.requires)
