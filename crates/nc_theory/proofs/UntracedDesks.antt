-- Events on a desk without traces are events on the desk with them.
-- Two states with the same items up to traces have the same candidates and outcomes, and stay such
-- states with an outcome (`same_after`). So each commit on the one desk is one on the other
-- (`advances_alike`); the other events leave the state as it is.
use Rattle.nc_algebra.specs.Elements.{generator_weight}
use Rattle.nc_algebra.specs.Monomials.{Monomial}
use Rattle.nc_algebra.specs.Problems.{NamedProblem, Problem}
use Rattle.nc_theory.proofs.UntracedStates.{SameStates, moved_candidate, moved_handles, moved_next, moved_none, same_after, untraced_twice}
use Rattle.nc_theory.specs.Desk.{Abandoned, Abandons, Advances, Claimed, Claims, Desk, Drives, IsFinished, IsFirstUnheld, IsHeld, IsReadyWork, Node, Submits, Submitted, Ticket, Work, after_claimed, after_freed, freed_from, claim_limit, with_work, without_node}
use Rattle.nc_theory.specs.Runs.{IsWaiting, state_after}
use Rattle.nc_theory.specs.States.{State}
use Rattle.nc_theory.specs.Untraced.{untraced}
use Rattle.nc_theory.specs.UntracedDesks.{SameEvents, untraced_desk}
use Rattle.std.proofs.Common.{List, [], inl, inr, refl, sym, ◌+◌, ◌∷◌, ◌≡◌, ◌≤◌, ◌⊎◌}

-- the desk with another state
abbrev at_state : Desk → State → Desk
at_state d state = record d { state = state }

module _ (P : Problem) (d : Desk) (state : State) (same : SameStates d.state state) where
  finished_alike : IsFinished P d → IsFinished P (at_state d state)
  finished_alike (inl none) = inl (moved_none P d.state state same d.last none)
  finished_alike (inr all) = inr all

  finished_back : IsFinished P (at_state d state) → IsFinished P d
  finished_back (inl none) = inl (moved_none P state d.state (sym same) d.last none)
  finished_back (inr all) = inr all

  waits_alike : (τ : Monomial) → IsWaiting P d.state d.last τ → IsWaiting P state d.last τ
  waits_alike τ c = (moved_candidate P d.state state same τ c.0, c.1)

  waits_back : (τ : Monomial) → IsWaiting P state d.last τ → IsWaiting P d.state d.last τ
  waits_back τ c = (moved_candidate P state d.state (sym same) τ c.0, c.1)

  unheld_alike : (τ : Monomial) → IsFirstUnheld P d τ → IsFirstUnheld P (at_state d state) τ
  unheld_alike τ first =
      record {
        waits = waits_alike τ first.waits;
        unheld = first.unheld;
        least = λ σ c free. first.least σ (waits_back σ c) free;
      }

  ready_alike : (τ : Monomial) (n : Node) (w : Work) → IsReadyWork P d τ n w
      → IsReadyWork P (at_state d state) τ n w
  ready_alike τ n w ready =
      record {
        next = moved_next P d.state state same d.last τ ready.next;
        held = ready.held;
        work = ready.work;
      }

  ready_back : (τ : Monomial) (n : Node) (w : Work) → IsReadyWork P (at_state d state) τ n w
      → IsReadyWork P d τ n w
  ready_back τ n w ready =
      record {
        next = moved_next P state d.state (sym same) d.last τ ready.next;
        held = ready.held;
        work = ready.work;
      }

-- after the same works are committed
advances_alike : (P : Problem) {d d' : Desk} → Advances P d d' → (state : State)
    → SameStates d.state state
    → (after : State) × Advances P (at_state d state) (at_state d' after)
    × SameStates d'.state after
advances_alike P {d} (Advances.at_end f) state same =
    (state, Advances.at_end (finished_alike P d state same f), same)
advances_alike P {d} (Advances.no_work f none) state same = (
  state,
  Advances.no_work (λ g. f (finished_back P d state same g))
      (λ τ n w ready. none τ n w (ready_back P d state same τ n w ready)),
  same,
)
advances_alike P {d} (Advances.drops f τ n w ready not) state same = (
  state,
  Advances.drops (λ g. f (finished_back P d state same g)) τ n w
      (ready_alike P d state same τ n w ready)
      (λ h. not (moved_handles P.setting state d.state (sym same) τ w.outcome h)),
  same,
)
advances_alike P (Advances.commits {d = d} f τ n w ready handles more) state same =
    let rest =
    advances_alike P more (state_after state τ w.outcome)
    (same_after d.state state same τ w.outcome) in (
      rest.0,
      Advances.commits (λ g. f (finished_back P d state same g)) τ n w
          (ready_alike P d state same τ n w ready)
          (moved_handles P.setting d.state state same τ w.outcome handles) rest.1,
      rest.2,
    )

-- after the same signatures are handled alone
drives_alike : (P : Problem) {d d' : Desk} → Drives P d d' → (state : State)
    → SameStates d.state state
    → (after : State) × Drives P (at_state d state) (at_state d' after) × SameStates d'.state after
drives_alike P Drives.rests state same = (state, Drives.rests, same)
drives_alike P {d} (Drives.handles_alone f τ next o handles more) state same =
    let rest =
    drives_alike P more (state_after state τ o) (same_after d.state state same τ o) in (
      rest.0,
      Drives.handles_alone (λ g. f (finished_back P d state same g)) τ
          (moved_next P d.state state same d.last τ next) o
          (moved_handles P.setting d.state state same τ o handles) rest.1,
      rest.2,
    )

freed_alike : (ns : List Node) (d : Desk) → freed_from ns (untraced_desk d)
    ≡ untraced_desk (freed_from ns d)
freed_alike [] d = refl
freed_alike (n ∷ ns) d = freed_alike ns (after_freed d n ns)

module _ (P : NamedProblem) (d : Desk) where
  same : SameStates (untraced_desk d).state d.state
  same = untraced_twice d.state

  claims_alike : (answer : Claimed) (d' : Desk) → Claims P.problem (untraced_desk d) answer d'
      → (after : Desk) × Claims P.problem d answer after × (d' ≡ untraced_desk after)
  claims_alike answer d' (Claims.is_finished f) =
      (d, Claims.is_finished (finished_alike P.problem (untraced_desk d) d.state same f), refl)
  claims_alike answer d' (Claims.is_none f why) = (
    d,
    Claims.is_none (λ g. f (finished_back P.problem (untraced_desk d) d.state same g)) (go why),
    refl,
  )
    where
      go : (d.free ≡ []) ⊎ (((τ : Monomial) → IsWaiting P.problem (untraced d.state) d.last τ
          → IsHeld (untraced_desk d) τ) ⊎ (claim_limit ≤ d.claimed))
          → (d.free ≡ []) ⊎ (((τ : Monomial) → IsWaiting P.problem d.state d.last τ → IsHeld d τ)
          ⊎ (claim_limit ≤ d.claimed))
      go (inl full) = inl full
      go (inr (inl all)) =
          inr (inl (λ τ c. all τ (waits_back P.problem (untraced_desk d) d.state same τ c)))
      go (inr (inr many)) = inr (inr many)
  claims_alike answer d' (Claims.is_task f i others free few τ first) = (
    after_claimed (generator_weight P.problem.setting) d i others τ,
    Claims.is_task (λ g. f (finished_back P.problem (untraced_desk d) d.state same g)) i others
        free few τ (unheld_alike P.problem (untraced_desk d) d.state same τ first),
    refl,
  )

  submits_alike : (t : Ticket) (w : Work) (answer : Submitted) (d' : Desk)
      → Submits P (untraced_desk d) t w answer d'
      → (after : Desk) × Submits P d t w answer after × (d' ≡ untraced_desk after)
  submits_alike t w answer d' (Submits.is_gone n) = (d, Submits.is_gone n, refl)
  submits_alike t w answer d' (Submits.is_foreign g n) = (d, Submits.is_foreign g n, refl)
  submits_alike t w answer d' (Submits.is_ahead g p n) = (d, Submits.is_ahead g p n, refl)
  submits_alike t w answer d' (Submits.is_other g p l n i s) =
      (d, Submits.is_other g p l n i s, refl)
  submits_alike t w answer d' (Submits.is_taken g p l n i s) = (
    record d { window = with_work t.index w d.window },
    Submits.is_taken g p l n i s,
    refl,
  )

  abandons_alike : (t : Ticket) (answer : Abandoned) (d' : Desk)
      → Abandons (untraced_desk d) t answer d'
      → (after : Desk) × Abandons d t answer after × (d' ≡ untraced_desk after)
  abandons_alike t answer d' (Abandons.is_gone n) = (d, Abandons.is_gone n, refl)
  abandons_alike t answer d' (Abandons.is_freed g) = (
    record d {
      window = without_node t.index d.window;
      free = t.index ∷ d.free;
      abandoned = d.abandoned + 1;
    },
    Abandons.is_freed g,
    refl,
  )

  pub same_events : SameEvents P d
  same_events =
      record {
        finished = (
          finished_alike P.problem (untraced_desk d) d.state same,
          finished_back P.problem (untraced_desk d) d.state same,
        );
        claims = claims_alike;
        submits = submits_alike;
        abandons = abandons_alike;
        advances =
            λ d' a. let t = advances_alike P.problem a d.state same in (
              at_state d' t.0,
              t.1,
              λ k. record d' { state = t.2 k },
            );
        empties = freed_alike d.window d;
        drives =
            λ d' a. let t = drives_alike P.problem a d.state same in (
              at_state d' t.0,
              t.1,
              λ k. record d' { state = t.2 k },
            );
      }
