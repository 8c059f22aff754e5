use Rattle.nc_algebra.specs.Monomials.{monomial_of}
use Rattle.nc_criteria.specs.Multiples.{IsBestWithin}
use Rattle.std.proofs.Common.{None, Some, length, subst}
use Rattle.nc_desk.proofs.multiple.best_at.Goals as goal

pub unreachable-requires : goal.unreachable-requires
unreachable-requires c =
    let none : IsBestWithin c.args.snapshot.now.problem.problem.setting
    c.args.snapshot.now.state.entries (monomial_of c.args.sig.now) 0
    (length c.args.snapshot.now.state.entries) None =
    subst (λ n. IsBestWithin c.args.snapshot.now.problem.problem.setting
    c.args.snapshot.now.state.entries (monomial_of c.args.sig.now) 0 n None)
    c.entries.ensures.count (subst
    (IsBestWithin c.args.snapshot.now.problem.problem.setting
    c.args.snapshot.now.state.entries (monomial_of c.args.sig.now) 0 c.entries.result)
    c.in-None.is c.best_multiple.ensures) in
    (c.best_multiple_law.ensures c.args.snapshot.now.problem.problem.setting
    c.args.snapshot.now.state.entries (monomial_of c.args.sig.now)).0.0 none c.requires.0
    c.requires.1

pub returns : goal.returns
returns c =
    subst (λ n. IsBestWithin c.args.snapshot.now.problem.problem.setting
    c.args.snapshot.now.state.entries (monomial_of c.args.sig.now) 0 n (Some c.in-Some.best))
    c.entries.ensures.count
    (subst (IsBestWithin c.args.snapshot.now.problem.problem.setting
    c.args.snapshot.now.state.entries (monomial_of c.args.sig.now) 0 c.entries.result)
    c.in-Some.is c.best_multiple.ensures)
