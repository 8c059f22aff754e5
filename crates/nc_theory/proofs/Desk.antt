-- After each list of events the desk is at a state of the run, and its counts add up.
-- Claims, works that come in and tickets that are given back leave the state as it is; a commit is
-- a step of the run (`advance_holds`). Counts: a claim adds one node (`insert_counts`), a work none
-- (`work_counts`). A commit takes out one, since the node was found in the window (`found`,
-- `remove_counts`). So does a ticket that is given back: its generation is odd, hence not the 0 of
-- a free index (`generation_counts`).
use Rattle.nc_algebra.proofs.Orders.{nat_order}
use Rattle.nc_algebra.specs.Lists.{Among}
use Rattle.nc_algebra.specs.Elements.{generator_weight}
use Rattle.nc_algebra.specs.Monomials.{same_monomial, Monomial, compare_monomials}
use Rattle.nc_algebra.specs.Primes.{IsField}
use Rattle.nc_algebra.specs.Problems.{NamedProblem, Problem}
use Rattle.nc_theory.proofs.Determinism.{run_unique}
use Rattle.nc_theory.proofs.Ends.{next_exists}
use Rattle.nc_theory.proofs.Untraced.{same_length}
use Rattle.nc_theory.specs.Desk.{IsFinished, node_of, Abandoned, Abandons, Advances, Claims, Desk, Does, Event, IsCounted, IsGiven, IsLawful, Node, Plays, Submits, Submitted, Ticket, Work, generation_at, insert_node, laid, node_at, open_desk, with_work, without_node}
use Rattle.nc_theory.specs.Runs.{End, Handles, IsEnd, IsNext, NoneWaits, Outcome, SequentialRun, state_after}
use Rattle.nc_theory.specs.States.{State}
use Rattle.std.proofs.Common.{Bool, List, None, Option, Some, [], ap, arith, cond, false, inl, inr, length, map, nat_eq, refl, subst, sym, true, ℕ, ◌*◌, ◌+◌, ◌∙◌, ◌∷◌, ◌<◌, ◌≡◌, ◌≤◌, ◌⊎◌, suc, ◌↔◌}
use Rattle.std.proofs.lemmas.Bool.{eq-eqb, false≢true}
use Rattle.std.specs.Ordering.{is_lt}

-- ---- the snapshot

-- ---- what events do

-- a work that comes in is refused, which changes nothing, or it is laid into its node
abbrev pub IsLaid : NamedProblem → Desk → Ticket → Work → Type 0
IsLaid P d t w =
    (n : Node) × (t.generation ≡ generation_at d.window t.index) × (w.problem ≡ P)
    × (w.number ≤ d.handled) × (node_at d.window t.index ≡ Some n) × (n.signature ≡ w.signature)

pub refused_or_laid : (P : NamedProblem) (d : Desk) (t : Ticket) (w : Work) (answer : Submitted)
    (d' : Desk) → Submits P d t w answer d' → (d ≡ d')
    ⊎ (IsLaid P d t w × (record d { window = with_work t.index w d.window } ≡ d'))
refused_or_laid P d t w answer d' (Submits.is_gone n) = inl refl
refused_or_laid P d t w answer d' (Submits.is_foreign g n) = inl refl
refused_or_laid P d t w answer d' (Submits.is_ahead g p n) = inl refl
refused_or_laid P d t w answer d' (Submits.is_other g p l n i s) = inl refl
refused_or_laid P d t w answer d' (Submits.is_taken g p l n i s) = inr ((n, g, p, l, i, s), refl)

-- what holds of the state and of the counts beside the window is changed by a commit alone
module _ (P : NamedProblem) (Holds : ℕ → State → Option Monomial → ℕ → Type 0)
    (commit : (d : Desk) → ¬ IsFinished P.problem d → (τ : Monomial)
    → IsNext P.problem d.state d.last τ → (o : Outcome) → Handles P.problem.setting d.state τ o
    → Holds d.handled d.state d.last d.alone
    → Holds (suc d.handled) (state_after d.state τ o) (Some τ) d.alone) where
  abbrev Now : Desk → Type 0
  Now d = Holds d.handled d.state d.last d.alone

  advance_holds : {d d' : Desk} → Advances P.problem d d' → Now d → Now d'
  advance_holds (Advances.at_end f) h = h
  advance_holds (Advances.no_work f none) h = h
  advance_holds (Advances.drops f τ n w ready not) h = h
  advance_holds (Advances.commits {d = d} f τ n w ready handles more) h =
      advance_holds more (commit d f τ ready.next w.outcome handles h)

  abandon_holds : (d : Desk) (t : Ticket) (answer : Abandoned) (d' : Desk) → Abandons d t answer d'
      → Now d → Now d'
  abandon_holds d t answer d' (Abandons.is_gone n) h = h
  abandon_holds d t answer d' (Abandons.is_freed g) h = h

  event_holds : {d d' : Desk} {e : Event} → Does P d e d' → Now d → Now d'
  event_holds (Does.claims (Claims.is_finished f)) h = h
  event_holds (Does.claims (Claims.is_none f o)) h = h
  event_holds (Does.claims (Claims.is_task f i others free few τ first)) h = h
  event_holds {d} {d'} (Does.submits {answer = answer} t given w lawful s) h =
      elim (refused_or_laid P d t w answer d' s) [
        | inl e ↦ subst Now e h
        | inr l ↦ subst Now l.1 h
      ]
  event_holds {d} {d'} (Does.abandons {answer = answer} t given a) h =
      abandon_holds d t answer d' a h
  event_holds (Does.advances a) h = advance_holds a h

  play_holds : {d d' : Desk} {events : List Event} → Plays P events d d' → Now d → Now d'
  play_holds Plays.ends h = h
  play_holds (Plays.goes e does more) h = play_holds more (event_holds does h)

module _ (P : NamedProblem) where
  abbrev IsAtRun : Desk → Type 0
  IsAtRun d = SequentialRun P.problem d.handled d.state d.last

  pub event_runs : {d d' : Desk} {e : Event} → Does P d e d' → IsAtRun d → IsAtRun d'
  event_runs does run =
      event_holds P (λ n state last a. SequentialRun P.problem n state last)
      (λ d f τ next o handles run. SequentialRun.handled run τ next o handles) does run

  play_runs : {d d' : Desk} {events : List Event} → Plays P events d d' → IsAtRun d → IsAtRun d'
  play_runs Plays.ends run = run
  play_runs (Plays.goes e does more) run = play_runs more (event_runs does run)

  -- no more steps than the problem allows
  abbrev IsLimited : Desk → Type 0
  IsLimited d = d.handled ≤ P.problem.steps

  pub opened_limits : (capacity : ℕ) → IsLimited (open_desk capacity)
  opened_limits capacity = omega arith

  pub event_limits : {d d' : Desk} {e : Event} → Does P d e d' → IsLimited d → IsLimited d'
  event_limits does l =
      event_holds P (λ n state last a. n ≤ P.problem.steps)
      (λ d f τ next o handles l. go d f l (nat_order d.handled P.problem.steps)) does l
    where
      go : (d : Desk) → ¬ IsFinished P.problem d → IsLimited d → (d.handled < P.problem.steps)
          ⊎ ((d.handled ≡ P.problem.steps) ⊎ (P.problem.steps < d.handled))
          → suc d.handled ≤ P.problem.steps
      go d f l (inl k) = omega (arith, k)
      go d f l (inr (inl e)) = absurd (f (inr e))
      go d f l (inr (inr k)) = absurd (omega (arith, l, k))

  play_limits : {d d' : Desk} {events : List Event} → Plays P events d d' → IsLimited d
      → IsLimited d'
  play_limits Plays.ends l = l
  play_limits (Plays.goes e does more) l = play_limits more (event_limits does l)

  -- a play goes on from a state of the run to one, within the steps
  pub goes_on : {d d' : Desk} {events : List Event} → Plays P events d d' → (IsAtRun d → IsAtRun d')
      × (IsLimited d → IsLimited d')
  goes_on plays = (play_runs plays, play_limits plays)

  pub snapshot : (capacity : ℕ) {events : List Event} {d : Desk}
      → Plays P events (open_desk capacity) d → IsAtRun d × IsLimited d
  snapshot capacity plays = (play_runs plays SequentialRun.opened, play_limits plays (opened_limits capacity))

-- ---- the counts

insert_counts : (weight : ℕ → ℕ) (n : Node) (window : List Node)
    → length (insert_node weight n window) ≡ length window + 1
insert_counts weight n [] = refl
insert_counts weight n (m ∷ ns) =
    go (is_lt (compare_monomials weight n.signature m.signature)) (insert_counts weight n ns)
  where
    go : (b : Bool) → length (insert_node weight n ns) ≡ length ns + 1
        → length (cond b (n ∷ m ∷ ns) (m ∷ insert_node weight n ns)) ≡ length (m ∷ ns) + 1
    go true e = omega arith
    go false e = omega (arith, e)

-- a work that is laid into a node changes nothing that each node keeps
pub work_keeps : {X : Type 0} (f : Node → X) (w : Work) → ((n : Node) → f (laid n w) ≡ f n)
    → (i : ℕ) (window : List Node) → map f (with_work i w window) ≡ map f window
work_keeps f w same i [] = refl
work_keeps f w same i (n ∷ ns) = go (nat_eq n.index i) (work_keeps f w same i ns)
  where
    go : (b : Bool) → map f (with_work i w ns) ≡ map f ns
        → map f (cond b (laid n w ∷ ns) (n ∷ with_work i w ns)) ≡ f n ∷ map f ns
    go true e = ap (λ x. x ∷ map f ns) (same n)
    go false e = ap (λ xs. f n ∷ xs) e

work_counts : (i : ℕ) (w : Work) (window : List Node)
    → length (with_work i w window) ≡ length window
work_counts i w window =
    same_length (λ n. n.index) (with_work i w window) window
    (work_keeps (λ n. n.index) w (λ n. refl) i window)

-- a node is taken out, where one has the index
pub remove_counts : (i : ℕ) (window : List Node) (n : Node) → Among n window → n.index ≡ i
    → length (without_node i window) + 1 ≡ length window
remove_counts i [] n k e = absurd k
remove_counts i (m ∷ ns) n k e = go (nat_eq m.index i) refl k (λ h. remove_counts i ns n h e)
  where
    go : (b : Bool) → nat_eq m.index i ≡ b → (n ≡ m) ⊎ Among n ns
        → (Among n ns → length (without_node i ns) + 1 ≡ length ns)
        → length (cond b ns (m ∷ without_node i ns)) + 1 ≡ length (m ∷ ns)
    go true d o f = omega arith
    go false d (inl j) f =
        absurd (false≢true (sym d ∙ eq-eqb m.index i (ap (λ x. x.index) (sym j) ∙ e)))
    go false d (inr h) f =
        let l : length (without_node i ns) + 1 ≡ length ns = f h in omega (arith, l)

-- and where the generation is not 0
generation_counts : (i : ℕ) (window : List Node) (c : ℕ) → 2 * c + 1 ≡ generation_at window i
    → length (without_node i window) + 1 ≡ length window
generation_counts i [] c e = absurd (omega (arith, e))
generation_counts i (n ∷ ns) c e = go (nat_eq n.index i) refl e (generation_counts i ns c)
  where
    go : (b : Bool) → nat_eq n.index i ≡ b → 2 * c + 1 ≡ cond b n.generation (generation_at ns i)
        → (2 * c + 1 ≡ generation_at ns i → length (without_node i ns) + 1 ≡ length ns)
        → length (cond b ns (n ∷ without_node i ns)) + 1 ≡ length (n ∷ ns)
    go true d g f = omega arith
    go false d g f = let l : length (without_node i ns) + 1 ≡ length ns = f g in omega (arith, l)

-- a node that is found stands in the window
pub found : (window : List Node) (τ : Monomial) (n : Node) → node_of window τ ≡ Some n
    → Among n window
found [] τ n e = let none : ⊥ = cc in absurd none
found (m ∷ ns) τ n e = go (same_monomial m.signature τ) e (found ns τ n)
  where
    go : (b : Bool) → cond b (Some m) (node_of ns τ) ≡ Some n → (node_of ns τ ≡ Some n → Among n ns)
        → (n ≡ m) ⊎ Among n ns
    go true d f = inl (cc)
    go false d f = inr (f d)

module _ (P : NamedProblem) where
  advance_counts : {d d' : Desk} → Advances P.problem d d' → IsCounted d → IsCounted d'
  advance_counts (Advances.at_end f) h = h
  advance_counts (Advances.no_work f none) h = h
  advance_counts (Advances.drops {d = d} f τ n w ready not) h = (
    omega (arith, h.0, remove_counts n.index d.window n (found d.window τ n ready.held) refl),
    h.1,
  )
  advance_counts (Advances.commits {d = d} f τ n w ready handles more) h =
      advance_counts more (
        omega (
          arith,
          h.0,
          remove_counts n.index d.window n (found d.window τ n ready.held) refl,
        ),
        omega (arith, h.1),
      )

  submit_counts : (d : Desk) (t : Ticket) (w : Work) (answer : Submitted) (d' : Desk)
      → Submits P d t w answer d' → IsCounted d → IsCounted d'
  submit_counts d t w answer d' s h =
      elim (refused_or_laid P d t w answer d' s) [
        | inl e ↦ subst IsCounted e h
        | inr l ↦ subst IsCounted l.1
            (omega (arith, h.0, work_counts t.index w d.window), h.1)
      ]

  abandon_counts : (d : Desk) (t : Ticket) → IsGiven t → (answer : Abandoned) (d' : Desk)
      → Abandons d t answer d' → IsCounted d → IsCounted d'
  abandon_counts d t given answer d' (Abandons.is_gone n) h = h
  abandon_counts d t given answer d' (Abandons.is_freed g) h =
      (omega (arith, h.0, generation_counts t.index d.window given.0 (sym given.1 ∙ g)), h.1)

  pub event_counts : {d d' : Desk} {e : Event} → Does P d e d' → IsCounted d → IsCounted d'
  event_counts (Does.claims (Claims.is_finished f)) h = h
  event_counts (Does.claims (Claims.is_none f o)) h = h
  event_counts {d} (Does.claims (Claims.is_task f i others free few τ first)) h = (
    omega (
      arith,
      h.0,
      insert_counts (generator_weight P.problem.setting)
          (record { signature = τ; index = i; generation = 2 * d.claimed + 1; work = None })
          d.window,
    ),
    h.1,
  )
  event_counts {d} {d'} (Does.submits {answer = answer} t given w l s) h =
      submit_counts d t w answer d' s h
  event_counts {d} {d'} (Does.abandons {answer = answer} t given a) h =
      abandon_counts d t given answer d' a h
  event_counts (Does.advances a) h = advance_counts a h

  play_alone : {d d' : Desk} {events : List Event} → Plays P events d d' → d'.alone ≡ d.alone
  play_alone {d} plays =
      play_holds P (λ n state last a. a ≡ d.alone) (λ d f τ next o handles e. e) plays refl

  play_counts : {d d' : Desk} {events : List Event} → Plays P events d d' → IsCounted d
      → IsCounted d'
  play_counts Plays.ends h = h
  play_counts (Plays.goes e does more) h = play_counts more (event_counts does h)

  -- a play keeps the counts right, and no signature is handled alone in it
  pub counts_on : {d d' : Desk} {events : List Event} → Plays P events d d'
      → (IsCounted d → IsCounted d') × (d'.alone ≡ d.alone)
  counts_on plays = (play_counts plays, play_alone plays)

  pub counted : (capacity : ℕ) {events : List Event} {d : Desk}
      → Plays P events (open_desk capacity) d → IsCounted d × (d.alone ≡ 0)
  counted capacity plays = (play_counts plays (refl, refl), play_alone plays)

-- a lawful work over the desk's own state is what handling gives there
pub own_stands : (P : NamedProblem) → IsField P.problem.setting.prime
    → {n : ℕ} {state : State} {last : Option Monomial} → SequentialRun P.problem n state last
    → (w : Work) → IsLawful w → w.problem ≡ P → w.number ≡ n
    → Handles P.problem.setting state w.signature w.outcome
own_stands P field {n} {state} {last} run w l p e = go (run_unique P.problem field here run)
  where
    here : SequentialRun P.problem n l.state l.last
    here = subst (λ m. SequentialRun P.problem m l.state l.last) e
        (subst (λ Q. SequentialRun Q.problem w.number l.state l.last) p l.run)

    go : (l.state ≡ state) × (l.last ≡ last) → Handles P.problem.setting state w.signature w.outcome
    go t = subst (λ s. Handles P.problem.setting s w.signature w.outcome) t.0
        (subst (λ Q. Handles Q.problem.setting l.state w.signature w.outcome) p l.handles)

-- at an end no candidate is left after the last signature, or all steps are made
ended : (P : Problem) → IsField P.setting.prime → (n : ℕ) (state : State) (last : Option Monomial)
    → SequentialRun P n state last → {end : End} → IsEnd P n state end → NoneWaits P state last
    ⊎ (n ≡ P.steps)
ended P field n state last run (IsEnd.is_complete {last = last'} l run' none) =
    inl (subst (NoneWaits P state) (run_unique P field run' run).1 none)
ended P field n state last run (IsEnd.is_budget e run' τ next) = inr e

-- a desk is finished exactly where its run has an end
pub finished : (P : Problem) → IsField P.setting.prime → (d : Desk)
    → SequentialRun P d.handled d.state d.last → d.handled ≤ P.steps → IsFinished P d
    ↔ ((end : End) × IsEnd P d.handled d.state end)
finished P field d run l = (forth, λ t. back t.1)
  where
    at_limit : d.handled ≡ P.steps → ((τ : Monomial) × IsNext P d.state d.last τ)
        ⊎ NoneWaits P d.state d.last → (end : End) × IsEnd P d.handled d.state end
    at_limit e (inl (τ, next)) = (End.budget τ, IsEnd.is_budget e run τ next)
    at_limit e (inr none) = (End.complete, IsEnd.is_complete l run none)

    forth : IsFinished P d → (end : End) × IsEnd P d.handled d.state end
    forth (inl none) = (End.complete, IsEnd.is_complete l run none)
    forth (inr e) = at_limit e (next_exists P d.state d.last)

    back : {end : End} → IsEnd P d.handled d.state end → IsFinished P d
    back t = ended P field d.handled d.state d.last run t
