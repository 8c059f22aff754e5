use Rattle.nc_algebra.specs.Polynomials.{Polynomial}
use Rattle.nc_desk.specs.Ends.{end_of}
use Rattle.nc_field.proofs.Primes.{listed_is_prime}
use Rattle.nc_member.proofs.Ends.{undecided, unrepresented}
use Rattle.nc_member.proofs.Whole.{proved}
use Rattle.nc_member.specs.Found.{AreProofLines}
use Rattle.nc_member.specs.Members.{IsProof, IsRestOf}
use Rattle.nc_snapshot.specs.Snapshots.{IsSnapshot, Snapshot}
use Rattle.nc_theory.specs.States.{Step}
use Rattle.std.proofs.Common.{List, [], ap, refl, subst, sym, ◌∙◌, ◌≡◌}
use Rattle.std.proofs.lemmas.Bool.{false≢true}
use Rattle.nc_member.proofs.proof.prove.Goals as goal
use Rattle.nc_member.proofs.proof.prove.Goals.{in-Complete, in-Budget}

pub returns-then-is_zero : goal.returns-then-is_zero
returns-then-is_zero c =
    let s : Snapshot = c.args.finished.now.snapshot in
    let is : IsSnapshot s =
    subst IsSnapshot c.snapshot-snapshot.ensures.snapshot c.recall_rule.ensures.snapshot in
    let steps : List Step = c.in_ok-poly.field-0.steps in
    let rest : IsRestOf s.problem.problem s.handled c.args.claim.now [] steps =
    subst (λ (g : Polynomial). IsRestOf s.problem.problem s.handled c.args.claim.now g steps)
    (c.if-is_zero.ensures.0 refl) c.in_ok-poly.ensures.rest in
    let found : AreProofLines s.problem.problem s.handled steps c.in_ok-lines.lines =
    subst (λ (l : List Step). AreProofLines s.problem.problem s.handled l c.in_ok-lines.lines)
    c.items.ensures
    (subst (λ (x : Snapshot). AreProofLines x.problem.problem x.handled c.items.result.now
    c.in_ok-lines.lines) c.snapshot-snapshot.ensures.snapshot c.in_ok-lines.ensures) in
    proved s.problem is.problem (listed_is_prime s.problem.problem.setting.prime
    is.problem.setting.prime) s.handled c.args.claim.now c.requires.claim found.needed steps
    rest found.traces c.in_ok-lines.lines found.are

pub returns : goal.returns
returns c =
    let s : Snapshot = c.args.finished.now.snapshot in
    let is : IsSnapshot s =
    subst IsSnapshot c.snapshot-snapshot.ensures.snapshot c.recall_rule.ensures.snapshot in
    let some : c.in_ok-poly.field-0.poly ≡ [] → ⊥ = λ e. false≢true (c.if-is_zero.ensures.1 e) in
    elim c.match-end.branch [
      | in-Complete w ↦ subst (IsProof c.args.finished.now c.args.claim.now) (sym w.result-is)
          (unrepresented s.problem is.problem s.handled s.state c.args.claim.now
          c.in_ok-poly.field-0.poly c.in_ok-poly.field-0.steps some c.in_ok-poly.ensures.rest
          c.args.finished.now.ending c.snapshot-snapshot.ensures.ended
          (sym c.end.ensures.end ∙ ap end_of w.in-Complete.is))
      | in-Budget w ↦ subst (IsProof c.args.finished.now c.args.claim.now) (sym w.result-is)
          (undecided s.problem is.problem s.handled s.state c.args.claim.now
          c.in_ok-poly.field-0.poly c.in_ok-poly.field-0.steps some c.in_ok-poly.ensures.rest
          c.args.finished.now.ending _ (sym c.end.ensures.end ∙ ap end_of w.in-Budget.is))
    ]
