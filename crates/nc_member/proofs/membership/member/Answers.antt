use Rattle.nc_algebra.specs.Polynomials.{Polynomial}
use Rattle.nc_cofactor.specs.Claims.{IsRepresentation}
use Rattle.nc_member.proofs.Ends.{represented, undecided, unrepresented}
use Rattle.nc_member.specs.Members.{IsMember, IsRestOf}
use Rattle.nc_snapshot.specs.Snapshots.{IsSnapshot, Snapshot}
use Rattle.nc_theory.specs.States.{Step}
use Rattle.std.proofs.Common.{List, [], ap, refl, subst, sym, ◌∙◌, ◌≡◌}
use Rattle.nc_desk.specs.Ends.{end_of}
use Rattle.std.proofs.lemmas.Bool.{false≢true}
use Rattle.nc_member.proofs.membership.member.Goals as goal
use Rattle.nc_member.proofs.membership.member.Goals.{in-Complete, in-Budget}

pub returns-then-is_zero-clause-member : goal.returns-then-is_zero-clause-member
returns-then-is_zero-clause-member c =
    let s : Snapshot = c.args.finished.now.snapshot in
    let is : IsSnapshot s =
    subst IsSnapshot c.snapshot-snapshot.ensures.snapshot c.recall_rule.ensures.snapshot in
    let steps : List Step = c.in_ok-poly.field-0.steps in
    let rest : IsRestOf s.problem.problem s.handled c.args.claim.now [] steps =
    subst (λ (g : Polynomial). IsRestOf s.problem.problem s.handled c.args.claim.now g steps)
    (c.if-is_zero.ensures.0 refl) c.in_ok-poly.ensures.rest in
    represented s.problem is.problem s.handled c.args.claim.now steps rest c.args.limit
    c.in_ok-module.module
    (subst (λ (l : List Step). IsRepresentation s.problem.problem s.handled l c.args.limit
    c.in_ok-module.module) c.items.ensures
    (subst (λ (x : Snapshot). IsRepresentation x.problem.problem x.handled c.items.result.now
    c.args.limit c.in_ok-module.module) c.snapshot-snapshot.ensures.snapshot
    c.in_ok-module.ensures.label))

pub returns-clause-member : goal.returns-clause-member
returns-clause-member c =
    let s : Snapshot = c.args.finished.now.snapshot in
    let is : IsSnapshot s =
    subst IsSnapshot c.snapshot-snapshot.ensures.snapshot c.recall_rule.ensures.snapshot in
    let some : c.in_ok-poly.field-0.poly ≡ [] → ⊥ = λ e. false≢true (c.if-is_zero.ensures.1 e) in
    elim c.match-end.branch [
      | in-Complete w ↦ subst (IsMember c.args.finished.now c.args.claim.now c.args.limit)
          (sym w.result-is) (unrepresented s.problem is.problem s.handled s.state c.args.claim.now
          c.in_ok-poly.field-0.poly c.in_ok-poly.field-0.steps some c.in_ok-poly.ensures.rest
          c.args.finished.now.ending c.snapshot-snapshot.ensures.ended
          (sym c.end.ensures.end ∙ ap end_of w.in-Complete.is))
      | in-Budget w ↦ subst (IsMember c.args.finished.now c.args.claim.now c.args.limit)
          (sym w.result-is) (undecided s.problem is.problem s.handled s.state c.args.claim.now
          c.in_ok-poly.field-0.poly c.in_ok-poly.field-0.steps some c.in_ok-poly.ensures.rest
          c.args.finished.now.ending _ (sym c.end.ensures.end ∙ ap end_of w.in-Budget.is))
    ]
