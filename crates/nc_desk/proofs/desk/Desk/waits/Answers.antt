use Rattle.nc_desk.proofs.Endings.{one_waits}
use Rattle.nc_desk.proofs.Steps.{some_left}
use Rattle.nc_desk.specs.Desks.{DeskValue, Waits}
use Rattle.std.proofs.Common.{refl, subst, sym}
use Rattle.std.proofs.lemmas.Bool.{false≢true}
use Rattle.nc_desk.proofs.desk.Desk.waits.Goals as goal

pub returns-in-Some : goal.returns-in-Some
returns-in-Some c = (
  λ t. subst (λ (d : DeskValue). Waits d.snapshot) c.self.view_is
      (one_waits c.self.inside.snapshot c.recall_rule.ensures.snapshot c.self.inside.waiting
      c.self.invariant.left c.least.ensures.ascending c.in-Some.field-0.now.value
      c.in-Some.ensures.least.0 c.in-Some.ensures.least.1),
  λ w. refl,
)

pub returns-in-None : goal.returns-in-None
returns-in-None c = (
  λ t. absurd (false≢true t),
  λ w. absurd
      (some_left c.self.inside.snapshot c.recall_rule.ensures.snapshot c.self.inside.waiting
      c.self.invariant.left (subst (λ (d : DeskValue). Waits d.snapshot) (sym c.self.view_is) w)
      (c.in-None.ensures.none.0 refl)),
)
