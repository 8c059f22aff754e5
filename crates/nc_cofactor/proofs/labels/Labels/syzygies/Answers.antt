use Rattle.nc_algebra.specs.Monomials.{Sig}
use Rattle.nc_algebra.specs.Sums.{Term}
use Rattle.nc_cofactor.proofs.Runs.{first_syzygy_fails, push_syzygy}
use Rattle.nc_cofactor.specs.Labels.{AreSyzygyLabels}
use Rattle.std.proofs.Common.{List, [], ap, length, length-append, subst, sym, ◌+◌, ◌∙◌, ◌∷◌, ◌≤◌}
use Rattle.std.proofs.lemmas.List.Elements.{All-append, All-from_recursion}
use Rattle.std.specs.List.{All}
use Rattle.nc_cofactor.proofs.labels.Labels.syzygies.Goals as goal

pub returns-in-Err-clause-fault : goal.returns-in-Err-clause-fault
returns-in-Err-clause-fault c =
    first_syzygy_fails c.args.snapshot.now.problem c.recall_rule.ensures.snapshot.problem
    c.args.snapshot.now.handled c.loop-i.kept.items c.loop-i.invariant.labels (c.loop-i.i + 1)
    c.args.limit c.in-Err.fault c.loop-i.invariant.few
    (ap (λ n. n + 1) (sym c.loop-i.invariant.count)) c.in-Err.ensures.fault

pub loop-i-preserved : goal.loop-i-preserved
loop-i-preserved c = record {
  labels =
      subst (AreSyzygyLabels c.args.snapshot.now.problem.problem c.args.snapshot.now.handled)
      (sym c.in_ok-push-in-Ok.ensures.items)
      (push_syzygy c.args.snapshot.now.problem c.recall_rule.ensures.snapshot.problem
      c.args.snapshot.now.handled c.loop-i.kept.items c.loop-i.invariant.labels (c.loop-i.i + 1)
      c.in-Ok.label c.in-Ok.ensures.label (ap (λ n. n + 1) (sym c.loop-i.invariant.count)));
  count = ap length c.in_ok-push-in-Ok.ensures.items
      ∙ (length-append c.loop-i.kept.items (c.in-Ok.label ∷ [])
      ∙ ap (λ n. n + 1) c.loop-i.invariant.count);
  few = subst (λ (l : List (List (Term Sig))). All (λ m. length m ≤ c.args.limit) l)
      (sym c.in_ok-push-in-Ok.ensures.items)
      (All-append (λ (m : List (Term Sig)). length m ≤ c.args.limit) c.loop-i.kept.items
      (c.in-Ok.label ∷ []) c.loop-i.invariant.few
      (All-from_recursion (λ (m : List (Term Sig)). length m ≤ c.args.limit) (c.in-Ok.label ∷ [])
      (c.in-Ok.ensures.few, tt)));
}
