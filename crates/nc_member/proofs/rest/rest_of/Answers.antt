use Rattle.nc_algebra.specs.Problems.{IsWithin}
use Rattle.nc_member.proofs.Ends.{rest_at}
use Rattle.nc_member.specs.Members.{IsRestOf}
use Rattle.nc_reduce.specs.declared.reduction.Rest.{Rest}
use Rattle.nc_theory.proofs.Handling.{words_small}
use Rattle.nc_theory.specs.Usable.{HasSmallWords}
use Rattle.nc_snapshot.specs.Snapshots.{IsSnapshot, Snapshot}
use Rattle.nc_theory.specs.Reductions.{Reduction}
use Rattle.std.proofs.Common.{subst, sym}
use Rattle.std.proofs.lemmas.Result.{IfOk-weaker}
use Rattle.nc_member.proofs.rest.rest_of.Goals as goal

pub reduce_within-requires-clause-small : goal.reduce_within-requires-clause-small
reduce_within-requires-clause-small c =
    let s : Snapshot = c.args.finished.now.snapshot in
    let is : IsSnapshot s =
    subst IsSnapshot c.snapshot-snapshot.ensures.snapshot c.recall_rule.ensures.snapshot in
    subst (λ (x : Snapshot). HasSmallWords x.problem.problem.setting c.args.claim.now)
    (sym c.snapshot-snapshot.ensures.snapshot)
    (words_small s.problem.alphabet is.problem.setting.alphabet s.problem.problem.setting
    c.args.claim.now c.requires.claim.words c.requires.light)

pub returns-clause-rest : goal.returns-clause-rest
returns-clause-rest c =
    let s : Snapshot = c.args.finished.now.snapshot in
    let is : IsSnapshot s =
    subst IsSnapshot c.snapshot-snapshot.ensures.snapshot c.recall_rule.ensures.snapshot in
    IfOk-weaker c.reduce_within.result
    (λ (r : Rest). Reduction c.snapshot-snapshot.result.now.problem.problem.setting
    c.snapshot-snapshot.result.now.state.entries
    (IsWithin c.snapshot-snapshot.result.now.problem.problem) c.args.claim.now r.poly r.steps)
    (λ r. IsRestOf s.problem.problem s.handled c.args.claim.now r.poly r.steps)
    (λ r h. rest_at s.problem.problem s.handled s.state is.run c.args.claim.now r.poly r.steps
    (subst (λ (x : Snapshot). Reduction x.problem.problem.setting x.state.entries
    (IsWithin x.problem.problem) c.args.claim.now r.poly r.steps)
    c.snapshot-snapshot.ensures.snapshot h))
    c.reduce_within.ensures
