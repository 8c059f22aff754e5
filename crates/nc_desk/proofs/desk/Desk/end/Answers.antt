use Rattle.nc_algebra.specs.Elements.{HasDegree}
use Rattle.nc_algebra.specs.Monomials.{Sig, monomial_of}
use Rattle.nc_algebra.specs.Problems.{NamedProblem}
use Rattle.nc_desk.proofs.Endings.{budget_end, complete_end, on_err, one_waits}
use Rattle.nc_desk.proofs.Steps.{least_degree}
use Rattle.nc_desk.specs.Desks.{DeskValue, MayStep, Waits}
use Rattle.nc_desk.specs.Ends.{IsEndAt}
use Rattle.nc_theory.specs.Runs.{End as Ending}
use Rattle.std.proofs.Common.{ap, arith, refl, subst, sym, ◌<◌, ◌∙◌, ◌∷◌, ◌≡◌}
use Rattle.nc_desk.proofs.desk.Desk.end.Goals as goal

pub returns-in_default-clause-ended : goal.returns-in_default-clause-ended
returns-in_default-clause-ended c = (
  subst (λ (d : DeskValue). IsEndAt d.snapshot Ending.complete) c.self.view_is
      (complete_end c.self.inside.snapshot c.problem-problem.ensures.snapshot
      c.self.inside.waiting c.self.invariant.left (c.in_default.ensures.none.0 refl)),
  tt,
)

pub returns-then-handled-steps-clause-ended : goal.returns-then-handled-steps-clause-ended
returns-then-handled-steps-clause-ended c =
    let e : c.deref.result.now.problem.steps ≡ c.self.inside.snapshot.problem.problem.steps =
    ap (λ (P : NamedProblem). P.problem.steps)
    (c.deref.ensures ∙ c.problem-problem.ensures.problem) in
    let l : c.self.inside.snapshot.handled < c.self.inside.snapshot.problem.problem.steps =
    omega arith in
    subst (λ (d : DeskValue). MayStep d.snapshot) c.self.view_is (
      one_waits c.self.inside.snapshot c.problem-problem.ensures.snapshot c.self.inside.waiting
          c.self.invariant.left c.least.ensures.ascending c.in-Some.least.now.value
          c.in-Some.ensures.least.0 c.in-Some.ensures.least.1,
      l,
    )

pub returns-in_err-sig-clause-waits : goal.returns-in_err-sig-clause-waits
returns-in_err-sig-clause-waits c =
    let w : Waits c.args.self.now.snapshot =
    subst (λ (d : DeskValue). Waits d.snapshot) c.self.view_is
    (one_waits c.self.inside.snapshot c.problem-problem.ensures.snapshot c.self.inside.waiting
    c.self.invariant.left c.least.ensures.ascending c.in-Some.least.now.value
    c.in-Some.ensures.least.0 c.in-Some.ensures.least.1) in
    on_err c.from_residual.result w

pub returns-clause-ended : goal.returns-clause-ended
returns-clause-ended c =
    let is : c.self.inside.waiting ≡ c.in_ok-sig.sig.value ∷ c.in-Some.ensures.least.0 =
    c.in-Some.ensures.least.1 ∙ ap (λ (σ : Sig). σ ∷ c.in-Some.ensures.least.0)
    (sym c.in_ok-sig.ensures) in
    let e : c.deref.result.now.problem.steps ≡ c.self.inside.snapshot.problem.problem.steps =
    ap (λ (P : NamedProblem). P.problem.steps)
    (c.deref.ensures ∙ c.problem-problem.ensures.problem) in
    let n : ¬ (c.self.inside.snapshot.handled < c.self.inside.snapshot.problem.problem.steps) =
    omega arith in (
      subst (λ (d : DeskValue). IsEndAt d.snapshot
          (Ending.budget (monomial_of c.in_ok-sig.sig.value))) c.self.view_is
          (budget_end c.self.inside.snapshot c.problem-problem.ensures.snapshot
          c.self.inside.waiting c.self.invariant.left c.least.ensures.ascending
          c.in_ok-sig.sig.value c.in-Some.ensures.least.0 is n),
      subst (λ (d : DeskValue). HasDegree d.snapshot.problem.problem.setting c.in_ok-sig.sig.value)
          c.self.view_is (least_degree c.self.inside.snapshot c.problem-problem.ensures.snapshot
          c.self.inside.waiting c.self.invariant.left c.least.ensures.ascending
          c.in_ok-sig.sig.value c.in-Some.ensures.least.0 is),
    )
