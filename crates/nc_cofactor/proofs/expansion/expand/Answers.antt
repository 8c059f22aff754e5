use Rattle.nc_algebra.specs.Monomials.{Sig}
use Rattle.nc_algebra.specs.Sums.{Term}
use Rattle.nc_cofactor.proofs.Expansions.{fill_fails, gives_expanded, gives_fault, item_named}
use Rattle.nc_cofactor.proofs.Marks.{only_marked}
use Rattle.nc_cofactor.proofs.Needing.{named_within}
use Rattle.nc_cofactor.specs.Expanding.{AreNamedLabels}
use Rattle.nc_cofactor.specs.Terms.{Names}
use Rattle.std.proofs.Common.{Bool, List, ap, false, length, subst, sym, ◌∙◌, ◌≡◌}
use Rattle.std.proofs.lemmas.Result.{err_from_is_err_and}
use Rattle.std.specs.List.{All}
use Rattle.nc_cofactor.proofs.expansion.expand.Goals as goal

pub mark-requires : goal.mark-requires
mark-requires c =
    named_within c.args.snapshot.now.problem c.recall_rule.ensures.snapshot.problem
    c.args.snapshot.now.handled c.args.snapshot.now.state c.recall_rule.ensures.snapshot.run
    c.args.listed c.in_ok-trace.trace c.in_ok-trace.ensures
    (length c.as_mut_slice-marks.result.now)
    (ap length c.as_mut_slice-marks.ensures.value
    ∙ (c.in_ok-kept.ensures.size ∙ c.entries.ensures.count))

pub item_label-requires : goal.item_label-requires
item_label-requires c =
    subst (λ (l : List (List (Term Sig))). AreNamedLabels c.args.snapshot.now.problem.problem
    c.args.snapshot.now.handled c.args.listed c.in_ok-trace.trace l)
    (sym c.as_slice.ensures.value)
    (item_named c.args.snapshot.now.problem c.recall_rule.ensures.snapshot.problem
    c.args.snapshot.now.handled c.args.listed c.in_ok-trace.trace c.in_ok-trace.ensures
    c.mark.new.marks c.args.limit
    (only_marked c.as_mut_slice-marks.result.now c.mark.new.marks (Names c.in_ok-trace.trace)
    (subst (λ (l : List Bool). All (λ mark. mark ≡ false) l)
    (sym c.as_mut_slice-marks.ensures.value) c.in_ok-kept.ensures.unmarked) c.mark.ensures)
    c.in_ok-labels.labels.items c.in_ok-labels.ensures.labels)

pub returns-clause-label : goal.returns-clause-label
returns-clause-label c =
    gives_expanded c.args.snapshot.now.problem c.recall_rule.ensures.snapshot.problem
    c.args.snapshot.now.handled c.args.listed c.in_ok-trace.trace c.in_ok-trace.ensures
    c.mark.new.marks c.args.limit
    (only_marked c.as_mut_slice-marks.result.now c.mark.new.marks (Names c.in_ok-trace.trace)
    (subst (λ (l : List Bool). All (λ mark. mark ≡ false) l)
    (sym c.as_mut_slice-marks.ensures.value) c.in_ok-kept.ensures.unmarked) c.mark.ensures)
    c.in_ok-labels.labels.items c.in_ok-labels.ensures.labels c.item_label.result
    c.item_label.ensures.label c.item_label.ensures.few

pub returns-clause-fault : goal.returns-clause-fault
returns-clause-fault c =
    gives_fault c.args.snapshot.now.problem c.recall_rule.ensures.snapshot.problem
    c.args.snapshot.now.handled c.args.listed c.in_ok-trace.trace c.in_ok-trace.ensures
    c.mark.new.marks c.args.limit
    (only_marked c.as_mut_slice-marks.result.now c.mark.new.marks (Names c.in_ok-trace.trace)
    (subst (λ (l : List Bool). All (λ mark. mark ≡ false) l)
    (sym c.as_mut_slice-marks.ensures.value) c.in_ok-kept.ensures.unmarked) c.mark.ensures)
    c.in_ok-labels.labels.items c.in_ok-labels.ensures.labels c.item_label.result
    c.item_label.ensures.fault

pub returns-in_err-labels-clause-fault : goal.returns-in_err-labels-clause-fault
returns-in_err-labels-clause-fault c =
    let p = err_from_is_err_and c.from_residual-in_err-labels.result
    c.from_residual-in_err-labels.ensures.1 in
    rw (p.1, p.2)
    (fill_fails c.args.snapshot.now.problem c.recall_rule.ensures.snapshot.problem
    c.args.snapshot.now.handled c.args.listed c.in_ok-trace.trace c.in_ok-trace.ensures
    c.mark.new.marks c.args.limit
    (only_marked c.as_mut_slice-marks.result.now c.mark.new.marks (Names c.in_ok-trace.trace)
    (subst (λ (l : List Bool). All (λ mark. mark ≡ false) l)
    (sym c.as_mut_slice-marks.ensures.value) c.in_ok-kept.ensures.unmarked) c.mark.ensures)
    c.in_err-labels.field-0.0 c.in_err-labels.ensures.fault)
