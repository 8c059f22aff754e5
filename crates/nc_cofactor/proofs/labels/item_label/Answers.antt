use Rattle.nc_algebra.specs.Elements.{Setting}
use Rattle.nc_algebra.specs.Problems.{NamedProblem}
use Rattle.nc_algebra.specs.Settings.{NamedSetting}
use Rattle.nc_cofactor.proofs.Runs.{can_sum, gives_label}
use Rattle.nc_cofactor.specs.Sums.{IsSummable, IsTraceSum}
use Rattle.std.proofs.Common.{ap, length, refl, subst, sym, ◌∙◌, ◌≡◌}
use Rattle.nc_cofactor.proofs.labels.item_label.Goals as goal

pub trace_sum-requires : goal.trace_sum-requires
trace_sum-requires c =
    let e : c.setting.result.now.setting ≡ c.args.snapshot.now.problem.problem.setting =
    ap (λ (x : NamedSetting). x.setting) c.setting.ensures.setting
    ∙ ap (λ (x : NamedProblem). x.problem.setting)
    (c.deref.ensures ∙ c.problem-problem.ensures.problem) in
    subst (λ (s : Setting). IsSummable s c.args.labels.now c.args.trace.now) (sym e)
    (can_sum c.args.snapshot.now.problem c.problem-problem.ensures.snapshot.problem
    c.args.snapshot.now.handled c.args.listed c.args.trace.now c.args.labels.now c.requires)

pub returns-then-terms-limit-clause-fault : goal.returns-then-terms-limit-clause-fault
returns-then-terms-limit-clause-fault c =
    let e : c.setting.result.now.setting ≡ c.args.snapshot.now.problem.problem.setting =
    ap (λ (x : NamedSetting). x.setting) c.setting.ensures.setting
    ∙ ap (λ (x : NamedProblem). x.problem.setting)
    (c.deref.ensures ∙ c.problem-problem.ensures.problem) in
    record {
      label = c.in_ok-label.label;
      has = gives_label c.args.snapshot.now.problem c.problem-problem.ensures.snapshot.problem
          c.args.snapshot.now.handled c.args.listed c.args.trace.now c.args.labels.now
          c.in_ok-label.label c.requires
          (subst (λ (s : Setting). IsTraceSum s c.args.labels.now c.args.trace.now
          c.in_ok-label.label) e c.in_ok-label.ensures);
      names = refl;
      count = ap length c.terms.ensures.terms;
      many = c.if-terms-limit.true;
    }

pub returns-clause-label : goal.returns-clause-label
returns-clause-label c =
    let e : c.setting.result.now.setting ≡ c.args.snapshot.now.problem.problem.setting =
    ap (λ (x : NamedSetting). x.setting) c.setting.ensures.setting
    ∙ ap (λ (x : NamedProblem). x.problem.setting)
    (c.deref.ensures ∙ c.problem-problem.ensures.problem) in
    gives_label c.args.snapshot.now.problem c.problem-problem.ensures.snapshot.problem
    c.args.snapshot.now.handled c.args.listed c.args.trace.now c.args.labels.now
    c.in_ok-label.label c.requires
    (subst (λ (s : Setting). IsTraceSum s c.args.labels.now c.args.trace.now
    c.in_ok-label.label) e c.in_ok-label.ensures)
