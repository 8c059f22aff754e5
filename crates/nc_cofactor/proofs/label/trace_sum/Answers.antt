use Rattle.nc_algebra.specs.Elements.{element_times}
use Rattle.nc_algebra.specs.Sums.{minus}
use Rattle.nc_cofactor.proofs.Listing.{less_steps-push}
use Rattle.nc_cofactor.proofs.Steps.{all_steps, one_more}
use Rattle.nc_cofactor.proofs.Sums.{sum_less}
use Rattle.nc_cofactor.specs.Sums.{elements_of}
use Rattle.nc_field.proofs.Primes.{listed_is_prime}
use Rattle.nc_theory.specs.Labels.{label_at, less_steps, start_label}
use Rattle.nc_theory.specs.States.{Step, Trace}
use Rattle.nc_algebra.specs.Elements.{Element}
use Rattle.std.proofs.Common.{List, ap, arith, get_or, length, subst, sym, take, ◌%◌, ◌-◌, ◌<◌, ◌∙◌, ◌≡◌}
use Rattle.std.proofs.lemmas.List.Elements.{All-get_or}
use Rattle.nc_cofactor.proofs.label.trace_sum.Goals as goal

pub loop-step-preserved : goal.loop-step-preserved
loop-step-preserved c =
    let is : c.items-step-items.result.now ≡ c.args.trace.now.steps =
    c.items-step-items.ensures ∙ ap (λ (t : Trace). t.steps) c.trace.view_is in
    let s = c.args.setting.now.setting in
    let ls : List Element = elements_of c.args.labels.now in
    let α : Element = start_label ls c.args.trace.now.start in
    let t : Step = c.step-item.result in
    let γ : Element = element_times t.left (label_at ls t.number) t.right in
    let before : Element = less_steps s.prime ls α
    (take c.loop-step.step-index c.args.trace.now.steps) in
    let steps = c.args.trace.now.steps in
    let i = c.loop-step.step-index in
    let within : i < length steps = omega (arith, c.loop-step-test.true, ap length is) in
    let at : t ≡ get_or steps i t =
    c.step-item.is ∙ ap (λ (l : List Step). get_or l i t) is in
    let small : t.coefficient < s.prime =
    subst (λ (x : Step). x.coefficient < s.prime) (sym at)
    (All-get_or (λ (x : Step). x.coefficient < s.prime) steps i t within c.requires.residues) in
    one_more s (less_steps s.prime ls α) steps i t (minus s.prime before t.coefficient γ)
    c.add_step.new.sum within at (less_steps-push s.prime ls α (take i steps) t)
    (sum_less s before γ t.coefficient c.neg-c.result c.prime.result c.add_step.new.sum small
    c.prime.ensures.prime
    (c.neg-c.ensures.value ∙ ap (λ (x : Step). (c.prime.result - x.coefficient) % c.prime.result)
    c.step.view_is) (c.in_ok-add_step.ensures before c.loop-step.invariant))

pub returns : goal.returns
returns c =
    let is : c.items-step-items.result.now ≡ c.args.trace.now.steps =
    c.items-step-items.ensures ∙ ap (λ (t : Trace). t.steps) c.trace.view_is in
    all_steps c.args.setting.now.setting
    (less_steps c.args.setting.now.setting.prime (elements_of c.args.labels.now)
    (start_label (elements_of c.args.labels.now) c.args.trace.now.start))
    c.args.trace.now.steps c.loop-step.step-index c.loop-step.sum c.in_ok-label.label
    (omega (arith, ap length is)) (listed_is_prime c.args.setting.now.setting.prime
    c.recall_rule.ensures.setting.prime).above_one c.in_ok-label.ensures.sum
    c.in_ok-label.ensures.descends c.in_ok-label.ensures.residues c.loop-step.invariant
