use Rattle.nc_algebra.specs.Elements.{Setting}
use Rattle.nc_algebra.specs.Monomials.{Sig}
use Rattle.nc_algebra.specs.Problems.{NamedProblem}
use Rattle.nc_algebra.specs.Settings.{NamedSetting}
use Rattle.nc_algebra.specs.Sums.{Term}
use Rattle.nc_cofactor.proofs.Marks.{only_marked}
use Rattle.nc_cofactor.proofs.Representing.{can_add, claim_fails, fill_fails, represents, steps_high, steps_low}
use Rattle.nc_cofactor.specs.Needed.{StepsName}
use Rattle.nc_cofactor.specs.Sums.{AreSummable, IsSum, elements_of}
use Rattle.nc_theory.specs.Labels.{step_multiples}
use Rattle.std.proofs.Common.{Bool, List, ap, arith, false, length, subst, sym, ◌∙◌, ◌≡◌}
use Rattle.std.proofs.lemmas.Result.{err_from_is_err_and}
use Rattle.std.specs.List.{All}
use Rattle.nc_cofactor.proofs.claims.represent.Goals as goal

pub mark_steps-requires-clause-some : goal.mark_steps-requires-clause-some
mark_steps-requires-clause-some c =
    steps_low c.args.snapshot.now c.problem-problem.ensures.snapshot c.args.steps.now
    c.requires.steps

pub mark_steps-requires-clause-within : goal.mark_steps-requires-clause-within
mark_steps-requires-clause-within c =
    steps_high c.args.snapshot.now c.problem-problem.ensures.snapshot c.args.steps.now
    c.requires.steps (length c.as_mut_slice-marks.result.now)
    (ap length c.as_mut_slice-marks.ensures.value
    ∙ (c.in_ok-kept.ensures.size ∙ c.entries.ensures.count))

pub returns-in_err-labels-clause-fault : goal.returns-in_err-labels-clause-fault
returns-in_err-labels-clause-fault c =
    let p = err_from_is_err_and c.from_residual-in_err-labels.result
    c.from_residual-in_err-labels.ensures.1 in
    rw (p.1, p.2)
    (fill_fails c.args.snapshot.now c.problem-problem.ensures.snapshot c.args.steps.now
    c.requires.steps c.mark_steps.new.marks c.args.limit
    (only_marked c.as_mut_slice-marks.result.now c.mark_steps.new.marks (StepsName c.args.steps.now)
    (subst (λ (l : List Bool). All (λ mark. mark ≡ false) l)
    (sym c.as_mut_slice-marks.ensures.value) c.in_ok-kept.ensures.unmarked)
    c.mark_steps.ensures)
    c.in_err-labels.field-0.0 c.in_err-labels.ensures.fault)

pub steps_sum-requires : goal.steps_sum-requires
steps_sum-requires c =
    let e : c.setting.result.now.setting ≡ c.args.snapshot.now.problem.problem.setting =
    ap (λ (x : NamedSetting). x.setting) c.setting.ensures.setting
    ∙ ap (λ (x : NamedProblem). x.problem.setting)
    (c.deref.ensures ∙ c.problem-problem.ensures.problem) in
    subst (λ (s : Setting). AreSummable s c.as_slice.result.now c.args.steps.now) (sym e)
    (subst (λ (l : List (List (Term Sig))). AreSummable c.args.snapshot.now.problem.problem.setting
    l c.args.steps.now) (sym c.as_slice.ensures.value)
    (can_add c.args.snapshot.now c.problem-problem.ensures.snapshot c.args.steps.now
    c.requires.steps c.mark_steps.new.marks c.args.limit
    (only_marked c.as_mut_slice-marks.result.now c.mark_steps.new.marks (StepsName c.args.steps.now)
    (subst (λ (l : List Bool). All (λ mark. mark ≡ false) l)
    (sym c.as_mut_slice-marks.ensures.value) c.in_ok-kept.ensures.unmarked)
    c.mark_steps.ensures)
    c.in_ok-labels.labels.items c.in_ok-labels.ensures.labels))

pub returns-then-terms-limit-clause-fault : goal.returns-then-terms-limit-clause-fault
returns-then-terms-limit-clause-fault c =
    let e : c.setting.result.now.setting ≡ c.args.snapshot.now.problem.problem.setting =
    ap (λ (x : NamedSetting). x.setting) c.setting.ensures.setting
    ∙ ap (λ (x : NamedProblem). x.problem.setting)
    (c.deref.ensures ∙ c.problem-problem.ensures.problem) in
    claim_fails c.args.snapshot.now c.problem-problem.ensures.snapshot c.args.steps.now
    c.requires.steps c.mark_steps.new.marks c.args.limit
    (only_marked c.as_mut_slice-marks.result.now c.mark_steps.new.marks (StepsName c.args.steps.now)
    (subst (λ (l : List Bool). All (λ mark. mark ≡ false) l)
    (sym c.as_mut_slice-marks.ensures.value) c.in_ok-kept.ensures.unmarked)
    c.mark_steps.ensures)
    c.in_ok-labels.labels.items c.in_ok-labels.ensures.labels c.in_ok-sum.sum
    (subst (λ (l : List (List (Term Sig))). IsSum c.args.snapshot.now.problem.problem.setting
    (step_multiples (elements_of l) c.args.steps.now) c.in_ok-sum.sum)
    c.as_slice.ensures.value
    (subst (λ (s : Setting). IsSum s
    (step_multiples (elements_of c.as_slice.result.now) c.args.steps.now) c.in_ok-sum.sum) e
    c.in_ok-sum.ensures))
    (length c.terms.result.now) (ap length c.terms.ensures.terms) c.if-terms-limit.true

pub returns-clause-label : goal.returns-clause-label
returns-clause-label c =
    let e : c.setting.result.now.setting ≡ c.args.snapshot.now.problem.problem.setting =
    ap (λ (x : NamedSetting). x.setting) c.setting.ensures.setting
    ∙ ap (λ (x : NamedProblem). x.problem.setting)
    (c.deref.ensures ∙ c.problem-problem.ensures.problem) in
    represents c.args.snapshot.now c.problem-problem.ensures.snapshot c.args.steps.now
    c.requires.steps c.mark_steps.new.marks c.args.limit
    (only_marked c.as_mut_slice-marks.result.now c.mark_steps.new.marks (StepsName c.args.steps.now)
    (subst (λ (l : List Bool). All (λ mark. mark ≡ false) l)
    (sym c.as_mut_slice-marks.ensures.value) c.in_ok-kept.ensures.unmarked)
    c.mark_steps.ensures)
    c.in_ok-labels.labels.items c.in_ok-labels.ensures.labels c.in_ok-sum.sum
    (subst (λ (l : List (List (Term Sig))). IsSum c.args.snapshot.now.problem.problem.setting
    (step_multiples (elements_of l) c.args.steps.now) c.in_ok-sum.sum)
    c.as_slice.ensures.value
    (subst (λ (s : Setting). IsSum s
    (step_multiples (elements_of c.as_slice.result.now) c.args.steps.now) c.in_ok-sum.sum) e
    c.in_ok-sum.ensures))
    (omega (arith, c.if-terms-limit.false, ap length c.terms.ensures.terms))
