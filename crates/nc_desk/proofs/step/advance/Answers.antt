use Rattle.nc_algebra.specs.Monomials.{Sig, monomial_of}
use Rattle.nc_desk.proofs.Steps.{advances, next_of_run}
use Rattle.nc_desk.specs.Steps.{IsStep}
use Rattle.nc_snapshot.specs.Outcomes.{outcome_of}
use Rattle.nc_snapshot.specs.Snapshots.{Snapshot}
use Rattle.nc_theory.specs.Runs.{Handles, state_after}
use Rattle.nc_theory.specs.Untraced.{IsNextOfRun, untraced}
use Rattle.std.specs.Arc.{arc_value}
use Rattle.std.proofs.Common.{ap, map, subst, sym, ◌+◌, ◌∙◌}
use Rattle.nc_desk.proofs.step.advance.Goals.{In_ok-append}
use Rattle.nc_desk.proofs.step.advance.Goals as goal

-- the step that the later snapshot took
abbrev stepped : (c : In_ok-append) → IsStep c.args.snapshot.now c.append.new.self
stepped c =
    let s : Snapshot = c.args.snapshot.now in
    let σ : Sig = c.args.sig.now.value in
    record {
      signature = monomial_of σ;
      outcome = outcome_of c.in_ok-outcome.outcome;
      next = next_of_run s c.recall_rule.ensures.snapshot (monomial_of σ) c.requires.next;
      handles = subst (λ (ρ : Sig). Handles s.problem.problem.setting s.state (monomial_of ρ)
          (outcome_of c.in_ok-outcome.outcome)) c.deref.ensures c.in_ok-outcome.ensures;
      problem = c.append.ensures.problem ∙ ap (λ (t : Snapshot). t.problem) c.in_ok-later.ensures;
      handled = c.in_ok-append.ensures.handled
          ∙ ap (λ (t : Snapshot). t.handled + 1) c.in_ok-later.ensures;
      state = c.in_ok-append.ensures.state
          ∙ (ap (λ (t : Snapshot). untraced (state_after t.state
          (monomial_of c.in_ok-try_clone.field-0.value) (outcome_of c.in_ok-outcome.outcome)))
          c.in_ok-later.ensures
          ∙ ap (λ (ρ : Sig). untraced (state_after s.state (monomial_of ρ)
          (outcome_of c.in_ok-outcome.outcome))) c.in_ok-try_clone.ensures);
    }

pub append-requires-clause-next : goal.append-requires-clause-next
append-requires-clause-next c =
    let s : Snapshot = c.args.snapshot.now in
    let σ : Sig = c.args.sig.now.value in
    subst (λ (t : Snapshot). IsNextOfRun t.problem.problem t.handled t.state
    (monomial_of c.in_ok-try_clone.field-0.value)) (sym c.in_ok-later.ensures)
    (subst (λ (ρ : Sig). IsNextOfRun s.problem.problem s.handled s.state (monomial_of ρ))
    (sym c.in_ok-try_clone.ensures)
    (next_of_run s c.recall_rule.ensures.snapshot (monomial_of σ) c.requires.next))

pub news-requires-clause-step : goal.news-requires-clause-step
news-requires-clause-step c = stepped (goal.at.news-requires-clause-step c).In_ok-append

pub returns-clause-advance : goal.returns-clause-advance
returns-clause-advance c =
    advances c.args.snapshot.now c.append.new.self
    (stepped (goal.at.returns-clause-advance c).In_ok-append) c.in_ok-more.more
    c.args.waiting.now (map arc_value c.in_ok-more.found.items) c.insert_all.new.self
    c.in_ok-more.ensures c.in_ok-insert_all.ensures.all c.insert_all.ensures.ascending
