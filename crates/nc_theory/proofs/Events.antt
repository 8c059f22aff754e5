-- Each event has a result, so each list of events has a play.
-- What an event asks can be decided. The least waiting signature that is not handed out is found in
-- the list of candidates (`first_with`). An advance ends, since each commit takes a node out of the
-- window (`advances_within`).
use Rattle.nc_algebra.proofs.Orders.{Decided, nat_dec, nat_order}
use Rattle.nc_algebra.specs.Elements.{IsLess}
use Rattle.nc_algebra.specs.Monomials.{Monomial}
use Rattle.nc_algebra.specs.Primes.{IsField}
use Rattle.nc_algebra.specs.Problems.{NamedProblem, Problem}
use Rattle.nc_theory.proofs.Completeness.{invariant}
use Rattle.nc_theory.proofs.Decisions.{any}
use Rattle.nc_theory.proofs.Desk.{event_runs, found, remove_counts}
use Rattle.nc_theory.proofs.Determinism.{handles_unique, next_unique}
use Rattle.nc_theory.proofs.Ends.{first_with, handles_exists, next_exists, source}
use Rattle.nc_theory.proofs.Equality.{monomial_dec, named_dec, outcome_dec}
use Rattle.nc_theory.proofs.Plays.{some_same}
use Rattle.nc_theory.specs.Desk.{Abandoned, Abandons, Advances, Claimed, Claims, Desk, Does, Event, IsFinished, IsFirstUnheld, IsGiven, IsHeld, IsReadyWork, Node, Plays, Submits, Submitted, Ticket, Work, after_committed, after_dropped, generation_at, claim_limit, node_at, node_of, open_desk}
use Rattle.nc_theory.specs.States.{State}
use Rattle.nc_theory.specs.Runs.{Handles, IsAfter, IsCandidate, IsNext, IsWaiting, Outcome, SequentialRun}
use Rattle.std.proofs.Common.{Bool, List, None, Option, Some, [], ap, arith, cond, false, inl, inr, le_refl, length, nat_eq, refl, subst, suc, sym, true, zero, ℕ, ◌*◌, ◌+◌, ◌<◌, ◌∙◌, ◌∷◌, ◌≡◌, ◌≤◌, ◌⊎◌}

-- a node with an odd generation is found by its index
node_there : (window : List Node) (i c : ℕ) → 2 * c + 1 ≡ generation_at window i → (n : Node)
    × (node_at window i ≡ Some n)
node_there [] i c e = absurd (omega (arith, e))
node_there (n ∷ ns) i c e = go (nat_eq n.index i) e (node_there ns i c)
  where
    go : (b : Bool) → 2 * c + 1 ≡ cond b n.generation (generation_at ns i)
        → (2 * c + 1 ≡ generation_at ns i → (m : Node) × (node_at ns i ≡ Some m)) → (m : Node)
        × (cond b (Some n) (node_at ns i) ≡ Some m)
    go true e f = (n, refl)
    go false e f = f e

module _ (P : Problem) where
  pub held_dec : (d : Desk) (τ : Monomial) → Decided (IsHeld d τ)
  held_dec d τ = any (λ n. n.signature ≡ τ) (λ n. monomial_dec n.signature τ) d.window

  finished_dec : (d : Desk) → Decided (IsFinished P d)
  finished_dec d = go (next_exists P d.state d.last) (nat_dec d.handled P.steps)
    where
      go : ((τ : Monomial) × IsNext P d.state d.last τ)
          ⊎ ((τ : Monomial) → IsCandidate P d.state τ → ¬ IsAfter P d.last τ)
          → Decided (d.handled ≡ P.steps) → Decided (IsFinished P d)
      go (inr none) o = inl (inl none)
      go (inl t) (inl e) = inl (inr e)
      go (inl t) (inr n) =
          inr (λ f. elim f [ inl none ↦ none t.0 t.1.candidate t.1.left | inr e ↦ n e ])

  -- a first signature that is not held, or all that wait are held
  first_unheld : (d : Desk) → ((τ : Monomial) × IsFirstUnheld P d τ)
      ⊎ ((τ : Monomial) → IsWaiting P d.state d.last τ → IsHeld d τ)
  first_unheld d =
      go (first_with P d.state d.last (λ σ. ¬ IsHeld d σ) (λ σ. not_dec (held_dec d σ)))
    where
      not_dec : {A : Type 0} → Decided A → Decided (¬ A)
      not_dec (inl a) = inr (λ n. n a)
      not_dec (inr n) = inl n

      is_held : (τ : Monomial) → ¬ (¬ IsHeld d τ) → Decided (IsHeld d τ) → IsHeld d τ
      is_held τ nn (inl h) = h
      is_held τ nn (inr n) = absurd (nn n)

      go : ((τ : Monomial) × IsWaiting P d.state d.last τ × (¬ IsHeld d τ)
          × ((σ : Monomial) → IsWaiting P d.state d.last σ → ¬ IsHeld d σ → (σ ≡ τ)
          ⊎ IsLess P.setting τ σ)) ⊎ ((τ : Monomial) → IsWaiting P d.state d.last τ
          → ¬ (¬ IsHeld d τ)) → ((τ : Monomial) × IsFirstUnheld P d τ)
          ⊎ ((τ : Monomial) → IsWaiting P d.state d.last τ → IsHeld d τ)
      go (inl (τ, w, n, least)) = inl (τ, record { waits = w; unheld = n; least = least })
      go (inr all) = inr (λ τ w. is_held τ (all τ w) (held_dec d τ))

  claims_exist : (d : Desk) → (answer : Claimed) × (d' : Desk) × Claims P d answer d'
  claims_exist d =
      go (finished_dec d) d.free refl (nat_order d.claimed claim_limit) (first_unheld d)
    where
      none : ¬ IsFinished P d → (d.free ≡ [])
          ⊎ (((τ : Monomial) → IsWaiting P d.state d.last τ → IsHeld d τ)
          ⊎ (claim_limit ≤ d.claimed)) → (answer : Claimed) × (d' : Desk) × Claims P d answer d'
      none n o = (Claimed.none_now, d, Claims.is_none n o)

      go : Decided (IsFinished P d) → (free : List ℕ) → d.free ≡ free → (d.claimed < claim_limit)
          ⊎ ((d.claimed ≡ claim_limit) ⊎ (claim_limit < d.claimed))
          → ((τ : Monomial) × IsFirstUnheld P d τ)
          ⊎ ((τ : Monomial) → IsWaiting P d.state d.last τ → IsHeld d τ) → (answer : Claimed)
          × (d' : Desk) × Claims P d answer d'
      go (inl f) free e l first = (Claimed.finished, d, Claims.is_finished f)
      go (inr n) [] e l first = none n (inl e)
      go (inr n) (i ∷ others) e (inr (inl m)) first = none n (inr (inr (omega (arith, m))))
      go (inr n) (i ∷ others) e (inr (inr m)) first = none n (inr (inr (omega (arith, m))))
      go (inr n) (i ∷ others) e (inl m) (inr all) = none n (inr (inl all))
      go (inr n) (i ∷ others) e (inl m) (inl (τ, first)) =
          (_, _, Claims.is_task n i others e m τ first)

submits_exist : (P : NamedProblem) (d : Desk) (t : Ticket) → IsGiven t → (w : Work)
    → (answer : Submitted) × (d' : Desk) × Submits P d t w answer d'
submits_exist P d t given w =
    go (nat_dec t.generation (generation_at d.window t.index)) (named_dec w.problem P)
    (nat_order d.handled w.number)
  where
    lay : t.generation ≡ generation_at d.window t.index → w.problem ≡ P → w.number ≤ d.handled
        → (answer : Submitted) × (d' : Desk) × Submits P d t w answer d'
    lay g p l = at (node_there d.window t.index given.0 (sym given.1 ∙ g))
      where
        at : (n : Node) × (node_at d.window t.index ≡ Some n) → (answer : Submitted) × (d' : Desk)
            × Submits P d t w answer d'
        at (n, i) = same (monomial_dec n.signature w.signature)
          where
            same : Decided (n.signature ≡ w.signature) → (answer : Submitted) × (d' : Desk)
                × Submits P d t w answer d'
            same (inl e) = (_, _, Submits.is_taken g p l n i e)
            same (inr m) = (_, _, Submits.is_other g p l n i m)

    go : Decided (t.generation ≡ generation_at d.window t.index) → Decided (w.problem ≡ P)
        → (d.handled < w.number) ⊎ ((d.handled ≡ w.number) ⊎ (w.number < d.handled))
        → (answer : Submitted) × (d' : Desk) × Submits P d t w answer d'
    go (inr n) p l = (_, _, Submits.is_gone n)
    go (inl g) (inr n) l = (_, _, Submits.is_foreign g n)
    go (inl g) (inl p) (inl l) = (_, _, Submits.is_ahead g p l)
    go (inl g) (inl p) (inr (inl e)) = lay g p (omega (arith, e))
    go (inl g) (inl p) (inr (inr l)) = lay g p (omega (arith, l))

abandons_exist : (d : Desk) (t : Ticket) → (answer : Abandoned) × (d' : Desk)
    × Abandons d t answer d'
abandons_exist d t = go (nat_dec t.generation (generation_at d.window t.index))
  where
    go : Decided (t.generation ≡ generation_at d.window t.index) → (answer : Abandoned)
        × (d' : Desk) × Abandons d t answer d'
    go (inr n) = (_, _, Abandons.is_gone n)
    go (inl g) = (_, _, Abandons.is_freed g)

module _ (P : Problem) (field : IsField P.setting.prime) where
  -- whether an outcome is what handling gives in a state of a run
  handles_dec : {n : ℕ} {state : State} {last : Option Monomial} → SequentialRun P n state last
      → (τ : Monomial) → IsNext P state last τ → (o : Outcome)
      → Decided (Handles P.setting state τ o)
  handles_dec {state = state} run τ next o =
      go (handles_exists P.setting field state (invariant P field run).sound.nonzero τ
      (source P field state τ next.candidate))
    where
      go : (o' : Outcome) × Handles P.setting state τ o' → Decided (Handles P.setting state τ o)
      go (o', h) = same (outcome_dec o' o)
        where
          same : Decided (o' ≡ o) → Decided (Handles P.setting state τ o)
          same (inl e) = inl (subst (Handles P.setting state τ) e h)
          same (inr n) =
              inr (λ k. n (handles_unique P.setting field state
              (invariant P field run).sound.nonzero τ h k))

  -- an advance from a desk, where one exists from each desk with a shorter window
  advance_on : (d : Desk) → SequentialRun P d.handled d.state d.last
      → ((d' : Desk) → length d'.window < length d.window
      → SequentialRun P d'.handled d'.state d'.last → (d'' : Desk) × Advances P d' d'')
      → (d' : Desk) × Advances P d d'
  advance_on d run shorter = go (finished_dec P d) (next_exists P d.state d.last)
    where
      at : ¬ IsFinished P d → (τ : Monomial) → IsNext P d.state d.last τ → (d' : Desk)
          × Advances P d d'
      at f τ next = node (node_of d.window τ) refl
        where
          idle : ((n : Node) (w : Work) → node_of d.window τ ≡ Some n → n.work ≡ Some w → ⊥)
              → (d' : Desk) × Advances P d d'
          idle none = (
            d,
            Advances.no_work f (λ σ n w r. none n w
                (ap (node_of d.window) (next_unique P d.state d.last τ σ next r.next) ∙ r.held)
                r.work),
          )

          node : (x : Option Node) → node_of d.window τ ≡ x → (d' : Desk) × Advances P d d'
          node None e =
              idle (λ n w h i. let both : None ≡ Some n = sym e ∙ h in let none : ⊥ = cc in none)
          node (Some n) e = work n.work refl
            where
              work : (x : Option Work) → n.work ≡ x → (d' : Desk) × Advances P d d'
              work None i =
                  idle (λ m w h j. let both : None ≡ Some w = sym i
                  ∙ (ap (λ y. y.work) (some_same n m (sym e ∙ h)) ∙ j) in let none : ⊥ = cc in
                  none)
              work (Some w) i = hold (handles_dec run τ next w.outcome)
                where
                  ready : IsReadyWork P d τ n w
                  ready = record { next = next; held = e; work = i }

                  hold : Decided (Handles P.setting d.state τ w.outcome) → (d' : Desk)
                      × Advances P d d'
                  hold (inr m) = (after_dropped d n, Advances.drops f τ n w ready m)
                  hold (inl h) =
                      more (shorter (after_committed d τ n w.outcome)
                      (omega (
                        arith,
                        remove_counts n.index d.window n (found d.window τ n e)
                            refl,
                      )) (SequentialRun.handled run τ next w.outcome h))
                    where
                      more : (d' : Desk) × Advances P (after_committed d τ n w.outcome) d'
                          → (d' : Desk) × Advances P d d'
                      more (d', a) = (d', Advances.commits f τ n w ready h a)

      go : Decided (IsFinished P d) → ((τ : Monomial) × IsNext P d.state d.last τ)
          ⊎ ((τ : Monomial) → IsCandidate P d.state τ → ¬ IsAfter P d.last τ) → (d' : Desk)
          × Advances P d d'
      go (inl f) o = (d, Advances.at_end f)
      go (inr n) (inr none) = absurd (n (inl none))
      go (inr n) (inl (τ, next)) = at n τ next

  -- each commit makes the window shorter
  advances_within : (k : ℕ) (d : Desk) → length d.window ≤ k
      → SequentialRun P d.handled d.state d.last → (d' : Desk) × Advances P d d'
  advances_within zero d l run = advance_on d run (λ d' h r. absurd (omega (arith, l, h)))
  advances_within (suc k) d l run =
      advance_on d run (λ d' h r. advances_within k d' (omega (arith, l, h)) r)

module _ (P : NamedProblem) (field : IsField P.problem.setting.prime) where
  event_exists : (d : Desk) → SequentialRun P.problem d.handled d.state d.last → (e : Event)
      → (d' : Desk) × Does P d e d'
  event_exists d run Event.claim = go (claims_exist P.problem d)
    where
      go : (answer : Claimed) × (d' : Desk) × Claims P.problem d answer d' → (d' : Desk)
          × Does P d Event.claim d'
      go (answer, d', c) = (d', Does.claims c)
  event_exists d run (Event.submit t given w l) = go (submits_exist P d t given w)
    where
      go : (answer : Submitted) × (d' : Desk) × Submits P d t w answer d' → (d' : Desk)
          × Does P d (Event.submit t given w l) d'
      go (answer, d', s) = (d', Does.submits t given w l s)
  event_exists d run (Event.abandon t given) = go (abandons_exist d t)
    where
      go : (answer : Abandoned) × (d' : Desk) × Abandons d t answer d' → (d' : Desk)
          × Does P d (Event.abandon t given) d'
      go (answer, d', a) = (d', Does.abandons t given a)
  event_exists d run Event.advance =
      go (advances_within P.problem field (length d.window) d (le_refl (length d.window)) run)
    where
      go : (d' : Desk) × Advances P.problem d d' → (d' : Desk) × Does P d Event.advance d'
      go (d', a) = (d', Does.advances a)

  plays_from : (d : Desk) → SequentialRun P.problem d.handled d.state d.last → (events : List Event)
      → (d' : Desk) × Plays P events d d'
  plays_from d run [] = (d, Plays.ends)
  plays_from d run (e ∷ events) =
      let first : (d' : Desk) × Does P d e d' =
      event_exists d run e in let rest : (d' : Desk) × Plays P events first.0 d' =
      plays_from first.0 (event_runs P first.1 run) events in
      (rest.0, Plays.goes e first.1 rest.1)

  pub plays_exist : (capacity : ℕ) (events : List Event) → (d : Desk)
      × Plays P events (open_desk capacity) d
  plays_exist capacity events = plays_from (open_desk capacity) SequentialRun.opened events
