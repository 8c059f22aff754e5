use Rattle.nc_algebra.specs.Monomials.{Sig}
use Rattle.nc_desk.proofs.Steps.{is_step, least_next, left_taken, some_left}
use Rattle.nc_desk.specs.Desks.{DeskValue, Waits}
use Rattle.nc_desk.specs.Steps.{IsAdvance, IsStep}
use Rattle.nc_algebra.specs.Monomials.{monomial_of}
use Rattle.std.specs.Arc.{arc_value}
use Rattle.std.proofs.Common.{ap, refl, subst, sym, ◌∙◌, ◌∷◌, ◌≡◌}
use Rattle.nc_desk.proofs.desk.Desk.step.Goals as goal

pub unreachable-requires : goal.unreachable-requires
unreachable-requires c =
    some_left c.self.inside.snapshot c.recall_rule.ensures.snapshot c.self.inside.waiting
    c.self.invariant.left (subst (λ (d : DeskValue). Waits d.snapshot) (sym c.self.view_is)
    c.requires.waits) (c.in_default.ensures.none.0 refl)

pub advance-requires-clause-next : goal.advance-requires-clause-next
advance-requires-clause-next c =
    let is : c.self.inside.waiting ≡ c.in_ok-sig.sig.value ∷ c.in-Some.ensures.least.0 =
    c.in-Some.ensures.least.1 ∙ ap (λ (σ : Sig). σ ∷ c.in-Some.ensures.least.0)
    (sym c.in_ok-sig.ensures) in
    least_next c.self.inside.snapshot c.recall_rule.ensures.snapshot c.self.inside.waiting
    c.self.invariant.left c.least.ensures.ascending c.in_ok-sig.sig.value
    c.in-Some.ensures.least.0 is

pub invariant_of-self-2 : goal.invariant_of-self-2
invariant_of-self-2 c =
    let is : c.self.inside.waiting ≡ c.in_ok-sig.sig.value ∷ c.in-Some.ensures.least.0 =
    c.in-Some.ensures.least.1 ∙ ap (λ (σ : Sig). σ ∷ c.in-Some.ensures.least.0)
    (sym c.in_ok-sig.ensures) in
    let a : IsAdvance c.self.inside.snapshot (monomial_of c.in_ok-sig.sig.value)
    c.in_ok-snapshot.snapshot c.in_ok-snapshot.leads c.self.inside.waiting
    c.advance.new.waiting = c.in_ok-snapshot.ensures.advance in
    record {
      listed = a.listed;
      left = left_taken c.self.inside.snapshot c.recall_rule.ensures.snapshot c.self.inside.waiting
          c.self.invariant.left c.least.ensures.ascending c.in_ok-sig.sig.value
          c.in-Some.ensures.least.0 is c.in_ok-snapshot.snapshot c.in_ok-snapshot.leads
          c.advance.new.waiting a
          arc_value c.take_least.new.self c.take_least.result c.take_least.ensures.taken
          c.take_least.ensures.none;
      some = c.self.invariant.some;
      few = c.self.invariant.few;
    }

pub returns-clause-step : goal.returns-clause-step
returns-clause-step c =
    let is : c.self.inside.waiting ≡ c.in_ok-sig.sig.value ∷ c.in-Some.ensures.least.0 =
    c.in-Some.ensures.least.1 ∙ ap (λ (σ : Sig). σ ∷ c.in-Some.ensures.least.0)
    (sym c.in_ok-sig.ensures) in
    subst (λ (d : DeskValue). IsStep d.snapshot c.in_ok-snapshot.snapshot) c.self.view_is
    (is_step c.self.inside.snapshot c.recall_rule.ensures.snapshot c.self.inside.waiting
    c.self.invariant.left c.least.ensures.ascending c.in_ok-sig.sig.value
    c.in-Some.ensures.least.0 is c.in_ok-snapshot.snapshot c.in_ok-snapshot.leads
    c.advance.new.waiting c.in_ok-snapshot.ensures.advance)
