use Rattle.nc_cofactor.specs.Claims.{AreNeededTraces, numbers_of}
use Rattle.nc_member.proofs.Needed.{subtracted_named, usable}
use Rattle.nc_member.specs.Found.{AreUsable}
use Rattle.nc_snapshot.specs.Snapshots.{Snapshot}
use Rattle.std.proofs.Common.{List, length, subst, sym, ℕ, ◌∙◌, ◌≡◌, ◌≤◌}
use Rattle.std.proofs.lemmas.Result.{IfOk-weaker}
use Rattle.std.specs.List.{All}
use Rattle.nc_member.proofs.lines.needed_by.Goals as goal

pub needed_traces-requires-clause-listed : goal.needed_traces-requires-clause-listed
needed_traces-requires-clause-listed c =
    let s : Snapshot = c.args.snapshot.now in
    let same : c.as_slice.result.now ≡ numbers_of c.args.steps.now =
    c.as_slice.ensures.value ∙ c.in_ok-numbers.ensures in
    subst (λ (l : List ℕ). All (λ j. (1 ≤ j) × (j ≤ length s.state.entries)) l) (sym same)
    (subtracted_named s.problem.problem s.state.entries c.args.steps.now c.requires.steps)

pub returns : goal.returns
returns c =
    let s : Snapshot = c.args.snapshot.now in
    let same : c.as_slice.result.now ≡ numbers_of c.args.steps.now =
    c.as_slice.ensures.value ∙ c.in_ok-numbers.ensures in
    IfOk-weaker c.needed_traces.result
    (λ l. AreNeededTraces s.problem.problem s.handled c.as_slice.result.now l.items)
    (λ l. AreUsable s.problem.problem s.handled (numbers_of c.args.steps.now) l.items)
    (λ l h. usable s.problem c.recall_rule.ensures.snapshot.problem s.handled
    c.recall_rule.ensures.snapshot.few (numbers_of c.args.steps.now) l.items
    (subst (λ (k : List ℕ). AreNeededTraces s.problem.problem s.handled k l.items) same h))
    c.needed_traces.ensures
