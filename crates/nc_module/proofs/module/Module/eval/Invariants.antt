use Rattle.nc_algebra.specs.Polynomials.{AreResidues}
use Rattle.nc_module.proofs.Modules.{IsValue}
use Rattle.nc_module.proofs.module.Module.eval.Given as goal

abbrev pub invariant-loop-t : goal.invariant-loop-t
invariant-loop-t l = record {
  residues : AreResidues l.setting.setting.prime l.sum;
  value : IsValue l.setting.setting l.self l.t-index l.sum;
}
