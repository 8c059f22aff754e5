use Rattle.nc_algebra.specs.Polynomials.{AreResidues}
use Rattle.nc_cert.proofs.Differences.{IsLeft}
use Rattle.nc_cert.proofs.value.minus_line.Given as goal

abbrev pub invariant-loop-part : goal.invariant-loop-part
invariant-loop-part l = record {
  residues : AreResidues l.setting.setting.prime l.sum;
  left : IsLeft l.setting.setting l.values l.fn.f l.c l.line l.part-index l.sum;
}
