use Rattle.nc_cofactor.proofs.Numbered.{IsNumberedTo}
use Rattle.std.proofs.Common.{vec_len}
use Rattle.nc_cofactor.proofs.claims.numbered.Given as goal

abbrev pub invariant-loop-slot : goal.invariant-loop-slot
invariant-loop-slot l = IsNumberedTo l.fn.stack.items l.left.items l.number l.kept.items

abbrev pub decreases-loop-slot : goal.decreases-loop-slot
decreases-loop-slot l = vec_len l.left
