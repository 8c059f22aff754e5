use Rattle.std.proofs.Common.{[], arith, subst, ◌+◌, ◌-◌, ◌≡◌}
use Rattle.std.proofs.lemmas.Result.{err_from_is_err_and}
use Rattle.nc_text.specs.Rows.{weights_at}
use Rattle.nc_text.proofs.Weights.{IsOnTheWay, begins, end_fails, ends, fails, goes_on}
use Rattle.nc_text.proofs.rows.weights_of.Goals as goal

pub weights-init : goal.weights-init
weights-init c =
    let whole : c.args.letters ≡ c.args.letters - 0 = omega arith in
    rw c.new-weights.ensures.items
    (subst (λ n. IsOnTheWay [] n c.args.line.now (weights_at c.args.letters c.args.line.now))
    whole (begins c.args.letters c.args.line.now))

pub returns-in_err-weight : goal.returns-in_err-weight
returns-in_err-weight c =
    let p = err_from_is_err_and c.from_residual.result c.from_residual.ensures.1 in
    let more : c.args.letters - c.weights.counter ≡ (c.args.letters - (c.weights.counter + 1)) + 1 =
    omega (arith, c.weights-test.true) in
    rw (p.1, p.2) (fails _ _ _ more _ _ _ (rw c.in_err-weight.was at c.weight_of.ensures)
    c.weights.invariant)

pub weights-preserved : goal.weights-preserved
weights-preserved c =
    let more : c.args.letters - c.weights.counter ≡ (c.args.letters - (c.weights.counter + 1)) + 1 =
    omega (arith, c.weights-test.true) in
    rw c.in_ok-push.ensures.items (goes_on _ _ _ more _ _ _ _
    (rw c.in_ok-weight.was at c.weight_of.ensures) c.weights.invariant)

pub returns-in_err-end : goal.returns-in_err-end
returns-in_err-end c =
    let p = err_from_is_err_and c.from_residual-in_err-end.result
    c.from_residual-in_err-end.ensures.1 in
    let none : c.args.letters - c.weights.counter ≡ 0 = omega (arith, c.weights-test.false) in
    rw (p.1, p.2) (end_fails _ _ _ _ _ none (rw c.in_err-end.was at c.end.ensures)
    c.weights.invariant)

pub returns : goal.returns
returns c =
    let none : c.args.letters - c.weights.counter ≡ 0 = omega (arith, c.weights-test.false) in
    ends _ _ _ _ _ none (rw c.in_ok-end.was at c.end.ensures) c.weights.invariant
