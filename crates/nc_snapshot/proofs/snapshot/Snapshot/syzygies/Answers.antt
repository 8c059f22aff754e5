use Rattle.nc_snapshot.proofs.Limits.{found_counts}
use Rattle.nc_snapshot.proofs.snapshot.Snapshot.syzygies.Goals as goal
use Rattle.std.proofs.Common.{arith, refl}

pub count_of-requires : goal.count_of-requires
count_of-requires c =
    omega (arith, c.syzygies.ensures, found_counts _ c.self.inside.found refl c.self.invariant.0)
