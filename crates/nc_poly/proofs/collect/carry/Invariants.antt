use Rattle.nc_algebra.specs.Polynomials.{AreResidues}
use Rattle.nc_poly.proofs.Terms.{IsCarried}
use Rattle.std.proofs.Common.{vec_len, ◌<◌, ◌≡◌}
use Rattle.nc_poly.proofs.collect.carry.Given as goal

abbrev pub invariant-loop-at : goal.invariant-loop-at
invariant-loop-at l = record {
  residues : AreResidues l.p l.terms.items;
  long : vec_len l.terms ≡ vec_len l.initial.terms;
  carried : 0 < vec_len l.initial.terms → IsCarried l.p l.initial.terms.items l.terms.items l.at;
}
