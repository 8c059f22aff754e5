use Rattle.nc_module.proofs.problem.same_sig.Goals as goal
use Rattle.nc_sig.proofs.Equality.{sigs_decide}

pub returns : goal.returns
returns c = rw c.eq.ensures (sigs_decide c.args.a.now c.args.b.now)
