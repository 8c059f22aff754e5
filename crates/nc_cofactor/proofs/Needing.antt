-- The entries that are reached from marks are found from the last one down.
-- What the trace of a marked entry names is marked. A trace names earlier entries
-- (`needs_earlier`), so one pass marks just what is reached. `IsOnTheWay` is the invariant: above
-- the entries that are left, all is done.
use Rattle.nc_algebra.specs.Monomials.{Monomial}
use Rattle.nc_algebra.specs.Problems.{IsProblem, NamedProblem, Problem}
use Rattle.nc_cofactor.proofs.Labelled.{problem_field}
use Rattle.nc_cofactor.proofs.Named.{IsAnyNamed, IsSigned, any_named, names_earlier, signed}
use Rattle.nc_cofactor.proofs.Once.{trace_once}
use Rattle.nc_cofactor.proofs.Places.{earlier_place, last_place}
use Rattle.nc_cofactor.proofs.Runs.{entries_kept, one_run, run_at}
use Rattle.nc_cofactor.specs.Needed.{AreFound, IsFound, IsMarked, IsSlot, MarksName}
use Rattle.nc_cofactor.specs.Terms.{IsNeeded, Names}
use Rattle.nc_cofactor.specs.Traces.{HasTrace, IsTraceIn, RunAt}
use Rattle.nc_theory.specs.Untraced.{IsRunOf}
use Rattle.nc_snapshot.specs.declared.outcome.Listed.{Listed}
use Rattle.nc_snapshot.specs.declared.outcome.Listed.TheVariants.{Entry as EntryOf}
use Rattle.nc_theory.specs.Runs.{SequentialRun}
use Rattle.nc_theory.specs.States.{Entry, State, Trace}
use Rattle.std.proofs.Common.{Bool, List, None, Option, Some, [], ap, arith, inl, inr, length, length-append, refl, subst, sym, true, ℕ, ◌+◌, ◌++◌, ◌-◌, ◌<◌, ◌∙◌, ◌∷◌, ◌≡◌, ◌≤◌, ◌⊎◌}
use Rattle.std.proofs.lemmas.Option.{slice_get_within}
use Rattle.std.specs.List.{slice_get}

pub compared : (a b : ℕ) → (a < b) ⊎ ((a ≡ b) ⊎ (b < a))
compared a b = grind arith

-- what stands for entry k on the way down
abbrev pub IsSlotOf : State → List Bool → ℕ → Option Trace → Type 0
IsSlotOf run marks k None = ¬ IsMarked marks k
IsSlotOf run marks k (Some x) = IsTraceIn run (EntryOf k) x × IsMarked marks k

-- entries above `left` are done
pub record IsOnTheWay (run : State) (first : List Bool) (left : ℕ) (marks : List Bool)
    (stack : List (Option Trace)) : Type 0 where
  pub begins : length first ≡ length run.entries
  pub size : length marks ≡ length run.entries
  pub height : length stack + left ≡ length run.entries
  pub sound : (j : ℕ) → 1 ≤ j → IsMarked marks j → IsNeeded run.entries (MarksName first) j
  pub kept : (j : ℕ) → 1 ≤ j → IsMarked first j → IsMarked marks j
  pub passed : (j k : ℕ) (e : Entry) → left < k → k ≤ length run.entries → IsMarked marks k
      → slice_get run.entries (k - 1) ≡ Some e → Names e.trace j → IsMarked marks j
  pub slots : (k : ℕ) (o : Option Trace) → left < k → k ≤ length run.entries
      → slice_get stack (length run.entries - k) ≡ Some o → IsSlotOf run marks k o

-- the same in the run after n steps
pub record IsWayOf (P : Problem) (n : ℕ) (first : List Bool) (left : ℕ) (marks : List Bool)
    (stack : List (Option Trace)) : Type 0 where
  pub at : RunAt P n
  pub way : IsOnTheWay at.run first left marks stack

-- what an entry's slot does to the marks
pub record IsStep (run : State) (first : List Bool) (left : ℕ) (old new : List Bool)
    (o : Option Trace) : Type 0 where
  pub grows : (j : ℕ) → 1 ≤ j → IsMarked old j → IsMarked new j
  pub lower : (j : ℕ) → 1 ≤ j → IsMarked new j → IsMarked old j
      ⊎ ((j < left) × IsNeeded run.entries (MarksName first) j)
  pub slot : IsSlotOf run new left o
  pub here : (j : ℕ) (e : Entry) → IsMarked new left → slice_get run.entries (left - 1) ≡ Some e
      → Names e.trace j → IsMarked new j

-- ---- one run

module _ (P : NamedProblem) (problem : IsProblem P) {n : ℕ} {run : State} {last : Option Monomial}
    (runs : SequentialRun P.problem n run last) where
  -- what is named or reached is an entry
  pub names_within : (listed : Listed) (t : Trace) (j : ℕ) → IsTraceIn run listed t → Names t j
      → (1 ≤ j) × (j ≤ length run.entries)
  names_within listed t j is m =
      let g : IsSigned P.problem run listed t =
      signed P.problem (problem_field P problem) runs listed t is in
      let x : IsAnyNamed P.problem.setting run.entries g.signature j =
      any_named P.problem.setting run.entries g.signature t j g.named m in
      let l : j - 1 < length run.entries =
      slice_get_within run.entries (j - 1) x.named.entry x.named.at in
      (x.named.some, omega (arith, l, x.named.some))

  -- what is needed lies within the bound that what is given lies within
  pub needed_bounded : (Given : ℕ → Type 0) (bound : ℕ)
      → ((j : ℕ) → Given j → (1 ≤ j) × (j ≤ bound)) → {j : ℕ} → IsNeeded run.entries Given j
      → (1 ≤ j) × (j ≤ bound)
  needed_bounded Given bound low (IsNeeded.given {j = j} g) = low j g
  needed_bounded Given bound low (IsNeeded.through {j = j} {k = k} needed e at m) =
      let b : (1 ≤ k) × (k ≤ bound) = needed_bounded Given bound low needed in
      let d : (1 ≤ j) × (j < k) =
      names_earlier P.problem (problem_field P problem) runs k j e b.0 at m in
      (d.0, omega (arith, b.1, d.1))

  pub reached_within : (marks : List Bool) → length marks ≡ length run.entries → {j : ℕ}
      → IsNeeded run.entries (MarksName marks) j → (1 ≤ j) × (j ≤ length run.entries)
  reached_within marks size reached =
      needed_bounded (MarksName marks) (length run.entries) low reached
    where
      low : (j : ℕ) → MarksName marks j → (1 ≤ j) × (j ≤ length run.entries)
      low j (some, m) =
          let l : j - 1 < length marks = slice_get_within marks (j - 1) true m in
          (some, omega (arith, l, some, size))

  -- what an entry needs are earlier ones
  pub needs_earlier : (i : ℕ) (t : Trace) → IsTraceIn run (EntryOf i) t → {j : ℕ}
      → IsNeeded run.entries (Names t) j → j < i
  needs_earlier i t (e, some, at, is) needs =
      let b = needed_bounded (Names t) (i - 1) low needs in
      omega (arith, b.0, b.1)
    where
      low : (j : ℕ) → Names t j → (1 ≤ j) × (j ≤ i - 1)
      low j m =
          let d : (1 ≤ j) × (j < i) =
          names_earlier P.problem (problem_field P problem) runs i j e some at
          (subst (λ (x : Trace). Names x j) (sym is) m) in
          (d.0, omega (arith, d.1))

  -- ---- the way down

  module _ (first : List Bool) where
    pub way_begins : (left : ℕ) → left ≡ length run.entries → length first ≡ length run.entries
        → IsOnTheWay run first left first []
    way_begins left all size = record {
      begins = size;
      size = size;
      height = omega (arith, all);
      sound = λ j some m. IsNeeded.given (some, m);
      kept = λ j some m. m;
      passed =
          λ j k e l within. absurd (let a : k ≤ left = omega (arith, within, all) in
          omega (arith, a, l));
      slots = λ k o l within. absurd (let a : k ≤ left = omega (arith, within, all) in
          omega (arith, a, l));
    }

    module _ (left : ℕ) (old new : List Bool) (stack : List (Option Trace)) (o : Option Trace)
        (some : 1 ≤ left) (way : IsOnTheWay run first left old stack) where
      step_is : IsSlot P.problem n old new left o → (o' : Option Trace) → o ≡ o'
          → IsStep run first left old new o
      step_is slot None e =
          let s : IsSlot P.problem n old new left None =
          subst (IsSlot P.problem n old new left) e slot in
          record {
            grows = λ j one m. subst (λ (l : List Bool). IsMarked l j) (sym s.1) m;
            lower = λ j one m. inl (subst (λ (l : List Bool). IsMarked l j) s.1 m);
            slot = subst (IsSlotOf run new left) (sym e)
                (λ m. s.0 (subst (λ (l : List Bool). IsMarked l left) s.1 m));
            here = λ j x m. absurd (s.0 (subst (λ (l : List Bool). IsMarked l left) s.1 m));
          }
      step_is slot (Some x) e =
          let s : IsSlot P.problem n old new left (Some x) =
          subst (IsSlot P.problem n old new left) e slot in
          let there : IsTraceIn run (EntryOf left) x =
          subst (λ (r : State). IsTraceIn r (EntryOf left) x)
          (one_run P problem n s.1.at.runs runs) s.1.is in
          record {
            grows = λ j one m. (s.2 j one).1 (inl m);
            lower = λ j one m. elim ((s.2 j one).0 m)
                [ inl k ↦ inl k | inr k ↦ inr (new_reach j x there s.0 k) ];
            slot = subst (IsSlotOf run new left) (sym e) (there, (s.2 left some).1 (inl s.0));
            here = λ j y m at k. (s.2 j (names_earlier P.problem (problem_field P problem) runs left
                j y some at k).0).1 (inr (subst (λ (z : Trace). Names z j)
                (trace_once run (EntryOf left) y.trace x (y, some, at, refl) there) k));
          }
        where
          new_reach : (j : ℕ) (x : Trace) → IsTraceIn run (EntryOf left) x → IsMarked old left
              → Names x j → (j < left) × IsNeeded run.entries (MarksName first) j
          new_reach j x (y, one, at, same) m k =
              let named : Names y.trace j = subst (λ (z : Trace). Names z j) (sym same) k in (
                (names_earlier P.problem (problem_field P problem) runs left j y some at named).1,
                IsNeeded.through (way.sound left some m) y at named,
              )

      goes_on : IsStep run first left old new o → length new ≡ length old
          → IsOnTheWay run first (left - 1) new (stack ++ o ∷ [])
      goes_on step same = record {
        begins = way.begins;
        size = same ∙ way.size;
        height = omega (arith, length-append stack (o ∷ []), way.height, some);
        sound = λ j one m. elim (step.lower j one m) [ inl k ↦ way.sound j one k | inr k ↦ k.1 ];
        kept = λ j one m. step.grows j one (way.kept j one m);
        passed = λ j k e l within m at h. passed j k e l within m at h (compared left k);
        slots = λ k y l within at. slots k y l within at (compared left k);
      }
        where
          passed : (j k : ℕ) (e : Entry) → left - 1 < k → k ≤ length run.entries → IsMarked new k
              → slice_get run.entries (k - 1) ≡ Some e → Names e.trace j → (left < k)
              ⊎ ((left ≡ k) ⊎ (k < left)) → IsMarked new j
          passed j k e below within m at h (inl l) =
              let one : 1 ≤ j =
              (names_earlier P.problem (problem_field P problem) runs k j e (omega (arith, l))
              at h).0 in
              elim (step.lower k (omega (arith, l)) m) [
                | inl old_mark ↦ step.grows j one (way.passed j k e l within old_mark at h)
                | inr
                    b ↦ absurd (omega (arith, b.0, l))
              ]
          passed j k e below within m at h (inr (inl i)) =
              step.here j e (subst (IsMarked new) (sym i) m)
              (subst (λ i. slice_get run.entries (i - 1) ≡ Some e) (sym i) at) h
          passed j k e below within m at h (inr (inr l)) = absurd (omega (arith, l, below))

          still : (k : ℕ) (y : Option Trace) → left < k → IsSlotOf run old k y
              → IsSlotOf run new k y
          still k None l f =
              λ m. elim (step.lower k (omega (arith, l)) m)
              [ inl b ↦ f b | inr b ↦ absurd (omega (arith, b.0, l)) ]
          still k (Some x) l f = (f.0, step.grows k (omega (arith, l)) f.1)

          slots : (k : ℕ) (y : Option Trace) → left - 1 < k → k ≤ length run.entries
              → slice_get (stack ++ o ∷ []) (length run.entries - k) ≡ Some y → (left < k)
              ⊎ ((left ≡ k) ⊎ (k < left)) → IsSlotOf run new k y
          slots k y below within at (inl l) =
              still k y l (way.slots k y l within
              (earlier_place stack o (length run.entries - k) y
              (omega (arith, l, within, way.height)) at))
          slots k y below within at (inr (inl i)) =
              subst (λ j. IsSlotOf run new j y) i
              (subst (IsSlotOf run new left)
              (last_place stack o (length run.entries - k) y
              (omega (arith, way.height, i, within)) at) step.slot)
          slots k y below within at (inr (inr l)) = absurd (omega (arith, l, below))

      pub way_steps : IsSlot P.problem n old new left o → length new ≡ length old
          → IsOnTheWay run first (left - 1) new (stack ++ o ∷ [])
      way_steps slot same = goes_on (step_is slot o refl) same

    -- what is reached is marked at the end
    module _ (marks : List Bool) (stack : List (Option Trace))
        (way : IsOnTheWay run first 0 marks stack) where
      marked : {j : ℕ} → IsNeeded run.entries (MarksName first) j → IsMarked marks j
      marked (IsNeeded.given {j = j} m) = way.kept j m.0 m.1
      marked (IsNeeded.through {j = j} {k = k} reached e at m) =
          let b : (1 ≤ k) × (k ≤ length run.entries) = reached_within first way.begins reached in
          way.passed j k e (omega (arith, b.0)) b.1 (marked reached) at m

      found : (k : ℕ) (o : Option Trace) → 1 ≤ k → IsSlotOf run marks k o → IsFound run first k o
      found k None some f = λ reached. f (marked reached)
      found k (Some x) some f = (f.0, way.sound k some f.1)

      pub way_ends : AreFound P.problem n first stack
      way_ends =
          record {
            at = record { run = run; last = last; runs = runs };
            size = way.begins;
            height = omega (arith, way.height);
            slots = λ k o some within at. found k o some
                (way.slots k o (omega (arith, some)) within at);
          }

-- ---- the code's loop

module _ (P : NamedProblem) (problem : IsProblem P) (n : ℕ) (state : State)
    (r : IsRunOf P.problem n state) where
  -- as many entries as the run that a fact speaks of
  pub entries_in : {run : State} {last : Option Monomial} → SequentialRun P.problem n run last
      → length state.entries ≡ length run.entries
  entries_in runs =
      entries_kept P.problem n state r
      ∙ ap (λ (x : State). length x.entries) (one_run P problem n r.runs runs)

  -- a trace of the run names entries
  pub named_within : (listed : Listed) (t : Trace) → HasTrace P.problem n listed t → (count : ℕ)
      → count ≡ length state.entries → (j : ℕ) → Names t j → (1 ≤ j) × (j ≤ count)
  named_within listed t h count size j m =
      let b : (1 ≤ j) × (j ≤ length h.at.run.entries) =
      names_within P problem h.at.runs listed t j h.is m in
      (b.0, omega (arith, b.1, size, entries_in h.at.runs))

  module _ (first : List Bool) (left : ℕ) where
    pub loop_begins : (stack : List (Option Trace)) → left ≡ length state.entries
        → length first ≡ length state.entries → stack ≡ []
        → IsWayOf P.problem n first left first stack
    loop_begins stack size long empty =
        let all : length state.entries ≡ length r.run.entries = entries_kept P.problem n state r in
        subst (IsWayOf P.problem n first left first) (sym empty)
        (record {
          at = run_at r;
          way = way_begins P problem r.runs first left (size ∙ all)
              (long ∙ all);
        })

    module _ (marks : List Bool) (stack : List (Option Trace))
        (w : IsWayOf P.problem n first left marks stack) where
      -- what is left, and how many marks there are
      pub loop_within : (left ≤ length state.entries) × (length marks ≡ length state.entries)
      loop_within =
          (omega (arith, entries_in w.at.runs, w.way.height), w.way.size ∙ sym (entries_in w.at.runs))

      pub loop_steps : (new : List Bool) (o : Option Trace) → 1 ≤ left
          → IsSlot P.problem n marks new left o → length new ≡ length marks
          → IsWayOf P.problem n first (left - 1) new (stack ++ o ∷ [])
      loop_steps new o some slot same =
          record {
            at = w.at;
            way = way_steps P problem w.at.runs first left marks new stack o some w.way
                slot same;
          }

      pub loop_ends : left ≡ 0 → AreFound P.problem n first stack
      loop_ends none =
          way_ends P problem w.at.runs first marks stack
          (subst (λ i. IsOnTheWay w.at.run first i marks stack) none w.way)
