use Rattle.nc_algebra.specs.Polynomials.{AreResidues}
use Rattle.nc_text.proofs.Polynomials.{IsOnTheWay}
use Rattle.nc_text.proofs.polynomial.sum_of.Given as goal
use Rattle.nc_text.specs.Reading.{sum_at}
use Rattle.std.proofs.Common.{length}

abbrev pub invariant-terms : goal.invariant-terms
invariant-terms l = record {
  reads : IsOnTheWay l.prime l.alphabet l.terms.items l.negative l.line
      (sum_at l.prime l.alphabet l.fn.line);
  residues : AreResidues l.prime l.terms.items;
}

abbrev pub decreases-terms : goal.decreases-terms
decreases-terms l = length l.line
