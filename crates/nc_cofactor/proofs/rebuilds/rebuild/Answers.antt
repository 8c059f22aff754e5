use Rattle.nc_algebra.specs.Monomials.{monomial_of}
use Rattle.nc_cofactor.proofs.Items.{listed_start, listed_usable}
use Rattle.nc_cofactor.proofs.Starts.{rebuilds_over}
use Rattle.nc_snapshot.specs.Traces.{start_of}
use Rattle.nc_cofactor.proofs.rebuilds.rebuild.Goals as goal

pub start_over-requires-clause-start : goal.start_over-requires-clause-start
start_over-requires-clause-start c =
    listed_start c.args.snapshot.now c.recall_rule.ensures.snapshot (monomial_of c.args.sig.now)
    c.args.entries c.requires.lesser c.requires.listed

pub start_over-requires-clause-generator : goal.start_over-requires-clause-generator
start_over-requires-clause-generator c =
    (listed_usable c.args.snapshot.now c.recall_rule.ensures.snapshot (monomial_of c.args.sig.now)
    c.requires.listed).0

pub reduce-requires-clause-usable : goal.reduce-requires-clause-usable
reduce-requires-clause-usable c =
    (listed_usable c.args.snapshot.now c.recall_rule.ensures.snapshot (monomial_of c.args.sig.now)
    c.requires.listed).1

pub returns : goal.returns
returns c = (
  c.in_ok-trace.field-0.poly,
  rebuilds_over c.args.snapshot.now.problem.problem.setting c.args.snapshot.now.state.entries
      (monomial_of c.args.sig.now) c.args.entries c.requires.lesser (start_of c.in_ok-start.start)
      c.in_ok-start.ensures
      c.in_ok-trace.field-0.poly c.in_ok-trace.field-0.trace c.in_ok-trace.ensures.start
      c.in_ok-trace.ensures.reduction,
)
