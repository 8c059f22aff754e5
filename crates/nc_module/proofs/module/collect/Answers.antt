use Rattle.nc_poly.proofs.Heaps.{listed_residues}
use Rattle.nc_module.proofs.module.collect.Goals as goal

pub add_all-requires-clause-factors : goal.add_all-requires-clause-factors
add_all-requires-clause-factors c = listed_residues c.args.p c.args.pairs.items c.requires
