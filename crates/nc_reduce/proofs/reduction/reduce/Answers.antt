use Rattle.nc_algebra.specs.Monomials.{monomial_of}
use Rattle.nc_algebra.specs.Polynomials.{IsNormal}
use Rattle.nc_algebra.specs.Problems.{setting_of}
use Rattle.nc_snapshot.proofs.Snapshots.{snapshot_usable}
use Rattle.nc_reduce.proofs.Limits.{reduced_at}
use Rattle.nc_reduce.proofs.Starts.{start_normal, start_readable, start_small}
use Rattle.nc_theory.specs.Usable.{HasSmallWords}
use Rattle.nc_snapshot.specs.Traces.{start_of}
use Rattle.nc_theory.specs.Reductions.{ReductionAt}
use Rattle.std.proofs.Common.{subst, sym}
use Rattle.nc_reduce.proofs.reduction.reduce.Goals as goal

pub start_poly-requires : goal.start_poly-requires
start_poly-requires c =
    start_readable (setting_of c.args.snapshot.now.problem)
    c.recall_rule.ensures.snapshot.problem.setting c.args.snapshot.now.state.entries
    (snapshot_usable c.args.snapshot.now c.recall_rule.ensures.snapshot)
    (monomial_of c.args.sig.now) c.requires.usable (start_of c.args.start) c.requires.start

pub reduce_all-requires-clause-normal : goal.reduce_all-requires-clause-normal
reduce_all-requires-clause-normal c =
    subst (IsNormal c.args.snapshot.now.problem.problem.setting.prime) (sym c.in_ok-f.ensures)
    (start_normal (setting_of c.args.snapshot.now.problem)
    c.recall_rule.ensures.snapshot.problem.setting c.args.snapshot.now.state.entries
    (snapshot_usable c.args.snapshot.now c.recall_rule.ensures.snapshot)
    (monomial_of c.args.sig.now) c.requires.usable (start_of c.args.start) c.requires.start)

pub reduce_all-requires-clause-small : goal.reduce_all-requires-clause-small
reduce_all-requires-clause-small c =
    subst (HasSmallWords c.args.snapshot.now.problem.problem.setting) (sym c.in_ok-f.ensures)
    (start_small (setting_of c.args.snapshot.now.problem)
    c.recall_rule.ensures.snapshot.problem.setting c.args.snapshot.now.state.entries
    (snapshot_usable c.args.snapshot.now c.recall_rule.ensures.snapshot)
    (monomial_of c.args.sig.now) c.requires.usable (start_of c.args.start) c.requires.start)

pub returns-clause-reduction : goal.returns-clause-reduction
returns-clause-reduction c =
    subst (λ f. ReductionAt c.args.snapshot.now.problem.problem.setting
    c.args.snapshot.now.state.entries (monomial_of c.args.sig.now) f c.in_ok-poly.poly
    c.in_ok-poly.steps) c.in_ok-f.ensures
    (reduced_at c.args.snapshot.now.problem.problem.setting c.args.snapshot.now.state.entries
    c.args.sig.now c.requires.degree c.in_ok-poly.ensures)
