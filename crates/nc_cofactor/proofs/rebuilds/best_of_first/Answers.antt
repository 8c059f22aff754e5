use Rattle.nc_algebra.specs.Monomials.{monomial_of}
use Rattle.nc_cofactor.proofs.Starts.{best_is_some}
use Rattle.nc_criteria.specs.Multiples.{IsBestWithin}
use Rattle.std.proofs.Common.{subst}
use Rattle.nc_cofactor.proofs.rebuilds.best_of_first.Goals as goal

pub unreachable-requires : goal.unreachable-requires
unreachable-requires c =
    best_is_some c.args.snapshot.now.problem.problem.setting c.args.snapshot.now.state.entries
    (monomial_of c.args.sig.now) c.args.entries c.requires.other c.requires.start
    (subst (IsBestWithin c.args.snapshot.now.problem.problem.setting
    c.args.snapshot.now.state.entries (monomial_of c.args.sig.now) 0 c.args.entries)
    c.in-None.is c.best_multiple.ensures)
