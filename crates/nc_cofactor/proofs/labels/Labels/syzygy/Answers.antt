use Rattle.nc_algebra.specs.Monomials.{Sig}
use Rattle.nc_algebra.specs.Sums.{Term}
use Rattle.nc_cofactor.proofs.Runs.{all_named, entries_kept, one_run}
use Rattle.nc_cofactor.specs.Expanding.{AreNamedLabels}
use Rattle.nc_snapshot.specs.declared.outcome.Listed.TheVariants.{Syzygy as SyzygyOf}
use Rattle.nc_theory.specs.States.{State}
use Rattle.std.proofs.Common.{List, ap, length, subst, sym, ◌∙◌}
use Rattle.nc_cofactor.proofs.labels.Labels.syzygy.Goals as goal

pub item_label-requires : goal.item_label-requires
item_label-requires c =
    subst (λ (l : List (List (Term Sig))). AreNamedLabels c.args.snapshot.now.problem.problem
    c.args.snapshot.now.handled (SyzygyOf c.args.number) c.in_ok-trace.trace l)
    (sym (c.as_slice.ensures.value ∙ c.self.view_is))
    (all_named c.args.snapshot.now.problem c.recall_rule.ensures.snapshot.problem
    c.args.snapshot.now.handled c.args.self.now c.requires.labels (SyzygyOf c.args.number)
    c.in_ok-trace.trace c.in_ok-trace.ensures
    (c.requires.all ∙ (entries_kept c.args.snapshot.now.problem.problem c.args.snapshot.now.handled
    c.args.snapshot.now.state c.recall_rule.ensures.snapshot.run
    ∙ ap (λ (r : State). length r.entries)
    (one_run c.args.snapshot.now.problem c.recall_rule.ensures.snapshot.problem
    c.args.snapshot.now.handled c.recall_rule.ensures.snapshot.run.runs
    c.requires.labels.at.runs))))
