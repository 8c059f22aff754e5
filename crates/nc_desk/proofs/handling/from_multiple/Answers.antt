use Rattle.nc_algebra.specs.Monomials.{monomial_of}
use Rattle.nc_algebra.specs.Problems.{setting_of}
use Rattle.nc_desk.proofs.Multiples.{best_reduced, best_settled, best_start}
use Rattle.nc_snapshot.proofs.Snapshots.{snapshot_usable}
use Rattle.nc_reduce.proofs.Starts.{start_readable}
use Rattle.nc_reduce.specs.Starts.{IsStartAt}
use Rattle.nc_theory.specs.Outcomes.{outcome_after}
use Rattle.nc_snapshot.specs.Traces.{start_of}
use Rattle.nc_theory.specs.States.{Start}
use Rattle.std.proofs.Common.{ap, drop, subst, sym, take, ◌∙◌}
use Rattle.std.proofs.lemmas.Bool.{false≢true}
use Rattle.nc_desk.proofs.handling.from_multiple.Goals as goal

pub leading_word-requires-clause-readable : goal.leading_word-requires-clause-readable
leading_word-requires-clause-readable c =
    start_readable (setting_of c.args.snapshot.now.problem)
    c.recall_rule.ensures.snapshot.problem.setting c.args.snapshot.now.state.entries
    (snapshot_usable c.args.snapshot.now c.recall_rule.ensures.snapshot)
    (monomial_of c.args.sig.now) c.requires.usable
    (Start.a_multiple (take c.args.best.left c.args.sig.now.left) c.args.best.number
    (drop c.args.best.right c.args.sig.now.right))
    (best_start c.args.snapshot.now.problem.problem.setting c.args.snapshot.now.state
    (monomial_of c.args.sig.now) c.args.best c.requires.best)

pub returns-then-not-is_reducible : goal.returns-then-not-is_reducible
returns-then-not-is_reducible c =
    best_settled c.args.snapshot.now.problem.problem.setting c.args.snapshot.now.state
    (monomial_of c.args.sig.now) c.args.best c.requires.best
    c.best_multiple_law.ensures c.requires.uncovered c.requires.other c.in_ok-word.word
    c.in_ok-word.ensures (λ r. false≢true (sym c.if-not-is_reducible.true
    ∙ c.is_reducible.ensures.1 r))

pub reduce-requires-clause-start : goal.reduce-requires-clause-start
reduce-requires-clause-start c =
    subst (IsStartAt c.args.snapshot.now.problem.problem.setting c.args.snapshot.now.state.entries
    (monomial_of c.args.sig.now)) (sym c.in_ok-start.ensures)
    (best_start c.args.snapshot.now.problem.problem.setting c.args.snapshot.now.state
    (monomial_of c.args.sig.now) c.args.best c.requires.best)

pub returns : goal.returns
returns c =
    best_reduced c.args.snapshot.now.problem.problem.setting c.args.snapshot.now.state
    (monomial_of c.args.sig.now) c.args.best c.requires.best
    c.best_multiple_law.ensures c.requires.uncovered c.requires.other c.in_ok-word.word
    c.in_ok-word.ensures (c.is_reducible.ensures.0 c.if-not-is_reducible.false)
    (start_of c.in_ok-start.start) c.in_ok-reduced.reduced.poly c.in_ok-reduced.reduced.trace.steps
    _ c.in_ok-start.ensures c.in_ok-reduced.ensures.reduction
    (c.outcome_from.ensures ∙ ap (λ start. outcome_after start c.in_ok-reduced.reduced.poly
    c.in_ok-reduced.reduced.trace.steps) c.in_ok-reduced.ensures.start)
