use Rattle.nc_algebra.specs.Elements.{Element, element_times}
use Rattle.nc_algebra.specs.Sums.{scale}
use Rattle.nc_cofactor.proofs.Listing.{step_multiples-push}
use Rattle.nc_cofactor.proofs.Steps.{all_steps, one_more}
use Rattle.nc_cofactor.proofs.Sums.{no_sum}
use Rattle.nc_cofactor.specs.Sums.{IsSum, elements_of}
use Rattle.nc_field.proofs.Primes.{listed_is_prime}
use Rattle.nc_theory.specs.Labels.{label_at, step_multiples}
use Rattle.nc_theory.specs.States.{Step}
use Rattle.std.proofs.Common.{List, ap, arith, subst, take, ◌++◌}
use Rattle.nc_cofactor.proofs.label.steps_sum.Goals as goal

pub loop-step-init : goal.loop-step-init
loop-step-init c = no_sum c.args.setting.now.setting c.new-sum.result c.new-sum.ensures

pub loop-step-preserved : goal.loop-step-preserved
loop-step-preserved c =
    let ls : List Element = elements_of c.args.labels.now in
    let t : Step = c.step-item.result in
    let γ : Element = element_times t.left (label_at ls t.number) t.right in
    let before : Element = step_multiples ls (take c.loop-step.step-index c.args.steps.now) in
    one_more c.args.setting.now.setting (step_multiples ls) c.args.steps.now c.loop-step.step-index
    t (scale t.coefficient γ ++ before)
    c.add_step.new.sum
    c.loop-step-test.true c.step-item.is
    (step_multiples-push ls (take c.loop-step.step-index c.args.steps.now) t)
    (subst (λ n. IsSum c.args.setting.now.setting (scale n γ ++ before) c.add_step.new.sum)
    (ap (λ (x : Step). x.coefficient) c.step.view_is)
    (c.in_ok-add_step.ensures before c.loop-step.invariant))

pub returns : goal.returns
returns c =
    all_steps c.args.setting.now.setting (step_multiples (elements_of c.args.labels.now))
    c.args.steps.now c.loop-step.step-index c.loop-step.sum c.in_ok-whole.whole
    (omega arith) (listed_is_prime c.args.setting.now.setting.prime
    c.recall_rule.ensures.setting.prime).above_one c.in_ok-whole.ensures.sum
    c.in_ok-whole.ensures.descends c.in_ok-whole.ensures.residues c.loop-step.invariant
