-- The traces that are found, each beside its number: those that given numbers need.
use Rattle.nc_algebra.specs.Problems.{IsProblem, NamedProblem, Problem}
use Rattle.nc_cofactor.proofs.Lists.{contains_map, map_contains, rising_push}
use Rattle.nc_cofactor.proofs.Needing.{compared, reached_within}
use Rattle.nc_cofactor.proofs.Places.{earlier_there, last_there}
use Rattle.nc_cofactor.proofs.Reaching.{need_more}
use Rattle.nc_cofactor.specs.Claims.{AreNeededFor, AreNeededTraces, ListsNeeded}
use Rattle.nc_cofactor.specs.Needed.{AreFound, AreNumbered, IsFound, IsMarked, MarksName}
use Rattle.nc_cofactor.specs.Terms.{IsNeeded}
use Rattle.nc_cofactor.specs.Traces.{IsTraceIn}
use Rattle.nc_snapshot.specs.declared.outcome.Listed.TheVariants.{Entry as EntryOf}
use Rattle.nc_theory.specs.States.{Trace}
use Rattle.std.proofs.Common.{Bool, Contains, List, None, Option, Some, [], ap, arith, get_or, inl, inr, length, length-append, map, refl, subst, sym, ℕ, ◌+◌, ◌++◌, ◌-◌, ◌<◌, ◌∙◌, ◌∷◌, ◌≡◌, ◌≤◌, ◌↔◌, ◌⊎◌}
use Rattle.std.proofs.lemmas.List.{map_push}
use Rattle.std.proofs.lemmas.List.Elements.{Contains-append_left, Contains-get_or, Contains-push, Contains-push_cases}
use Rattle.std.proofs.lemmas.Option.{slice_get_cases}
use Rattle.std.specs.List.{All, slice_get}
use Rattle.std.specs.List.Sorted.{IsStrictlyIncreasing}

-- ---- the code's loop

-- the first `number` slots, which stood last on the stack, are done
pub record IsNumberedTo (all stack : List (Option Trace)) (number : ℕ)
    (numbered : List (ℕ × Trace)) : Type 0 where
  pub height : length stack + number ≡ length all
  pub rest : (i : ℕ) (o : Option Trace) → slice_get stack i ≡ Some o → slice_get all i ≡ Some o
  pub ascending : IsStrictlyIncreasing (map (λ x. x.0) numbered)
  pub sound : (k : ℕ) (t : Trace) → Contains numbered (k, t) → (1 ≤ k) × (k ≤ number)
      × (slice_get all (length all - k) ≡ Some (Some t))
  pub complete : (k : ℕ) (t : Trace) → 1 ≤ k → k ≤ number
      → slice_get all (length all - k) ≡ Some (Some t) → Contains numbered (k, t)

module _ (all stack rest : List (Option Trace)) (o : Option Trace) (number : ℕ)
    (numbered : List (ℕ × Trace)) (h : IsNumberedTo all stack number numbered)
    (popped : stack ≡ rest ++ o ∷ []) where
  height : length rest + (number + 1) ≡ length all
  height = omega (arith, h.height, ap length popped, length-append rest (o ∷ []))

  here : slice_get all (length all - (number + 1)) ≡ Some o
  here = subst (λ i. slice_get all i ≡ Some o) (omega (arith, height))
      (h.rest (length rest) o (subst
      (λ (l : List (Option Trace)). slice_get l (length rest) ≡ Some o) (sym popped)
      (last_there rest o)))

  others : (i : ℕ) (x : Option Trace) → slice_get rest i ≡ Some x → slice_get all i ≡ Some x
  others i x at =
      h.rest i x (subst (λ (l : List (Option Trace)). slice_get l i ≡ Some x) (sym popped)
      (earlier_there rest o i x at))

  -- what stands at the new number
  stands : (k : ℕ) (x : Option Trace) → k ≡ number + 1 → slice_get all (length all - k) ≡ Some x
      → o ≡ x
  stands k x e at =
      let same : Some o ≡ Some x =
      sym here ∙ (ap (λ i. slice_get all (length all - i)) (sym e) ∙ at) in
      cc

  pub number_skips : o ≡ None → IsNumberedTo all rest (number + 1) numbered
  number_skips none = record {
    height = height;
    rest = others;
    ascending = h.ascending;
    sound = λ k t c. let s = h.sound k t c in (s.0, omega (arith, s.1), s.2);
    complete = λ k t some within at. complete k t some within at (compared k (number + 1));
  }
    where
      complete : (k : ℕ) (t : Trace) → 1 ≤ k → k ≤ number + 1
          → slice_get all (length all - k) ≡ Some (Some t) → (k < number + 1)
          ⊎ ((k ≡ number + 1) ⊎ (number + 1 < k)) → Contains numbered (k, t)
      complete k t some within at (inl l) = h.complete k t some (omega (arith, l)) at
      complete k t some within at (inr (inl e)) =
          let other : None ≡ Some t = sym none ∙ stands k (Some t) e at in cc
      complete k t some within at (inr (inr l)) = absurd (omega (arith, l, within))

  pub number_takes : (x : Trace) (new : List (ℕ × Trace)) → o ≡ Some x
      → new ≡ numbered ++ (number + 1, x) ∷ [] → IsNumberedTo all rest (number + 1) new
  number_takes x new some_x pushed =
      subst (IsNumberedTo all rest (number + 1)) (sym pushed) (record {
        height = height;
        rest = others;
        ascending =
            subst IsStrictlyIncreasing (sym (map_push (λ (y : ℕ × Trace). y.0) numbered (
              number + 1,
              x,
            ))) (rising_push (map (λ (y : ℕ × Trace). y.0) numbered) (number + 1) h.ascending
            below);
        sound = λ k t c. sound k t (Contains-push_cases numbered (number + 1, x) (k, t) c);
        complete = λ k t some within at. complete k t some within at (compared k (number + 1));
      })
    where
      below : (k : ℕ) → k < length (map (λ (y : ℕ × Trace). y.0) numbered)
          → get_or (map (λ (y : ℕ × Trace). y.0) numbered) k 0 < number + 1
      below k within =
          let r = map_contains (λ (y : ℕ × Trace). y.0) numbered
          (get_or (map (λ (y : ℕ × Trace). y.0) numbered) k 0)
          (Contains-get_or (map (λ (y : ℕ × Trace). y.0) numbered) k 0 within) in
          let s : r.0.0 ≤ number = (h.sound r.0.0 r.0.1 r.1).1 in
          omega (arith, s, r.2)

      sound : (k : ℕ) (t : Trace) → Contains numbered (k, t)
          ⊎ (◌≡◌ {A = ℕ × Trace} (number + 1, x) (k, t)) → (1 ≤ k) × (k ≤ number + 1)
          × (slice_get all (length all - k) ≡ Some (Some t))
      sound k t (inl c) = let s = h.sound k t c in (s.0, omega (arith, s.1), s.2)
      sound k t (inr e) =
          let number_is : number + 1 ≡ k = ap (λ (y : ℕ × Trace). y.0) e in
          let trace_is : x ≡ t = ap (λ (y : ℕ × Trace). y.1) e in (
            omega (arith, number_is),
            omega (arith, number_is),
            subst (λ i. slice_get all (length all - i) ≡ Some (Some t)) number_is
                (here ∙ ap Some (some_x ∙ ap Some trace_is)),
          )

      complete : (k : ℕ) (t : Trace) → 1 ≤ k → k ≤ number + 1
          → slice_get all (length all - k) ≡ Some (Some t) → (k < number + 1)
          ⊎ ((k ≡ number + 1) ⊎ (number + 1 < k))
          → Contains (numbered ++ (number + 1, x) ∷ []) (k, t)
      complete k t some within at (inl l) =
          Contains-append_left numbered ((number + 1, x) ∷ []) (k, t)
          (h.complete k t some (omega (arith, l)) at)
      complete k t some within at (inr (inl e)) =
          let same : Some x ≡ Some t = sym some_x ∙ stands k (Some t) e at in
          let one : x ≡ t = cc in
          subst (Contains (numbered ++ (number + 1, x) ∷ [])) (λ i. (sym e i, one i))
          (Contains-push numbered (number + 1, x))
      complete k t some within at (inr (inr l)) = absurd (omega (arith, l, within))

pub number_ends : (all stack : List (Option Trace)) (number : ℕ) (numbered : List (ℕ × Trace))
    → stack ≡ [] → IsNumberedTo all stack number numbered → AreNumbered all numbered
number_ends all stack number numbered none h =
    let whole : number ≡ length all = omega (arith, h.height, ap length none) in
    record {
      ascending = h.ascending;
      sound = λ k t c. let s = h.sound k t c in (s.0, omega (arith, s.1, whole), s.2);
      complete = λ k t some within at. h.complete k t some (omega (arith, within, whole)) at;
    }

-- ---- what the numbers need

module _ (P : NamedProblem) (problem : IsProblem P) (n : ℕ) (numbers : List ℕ) (marks : List Bool)
    (low : All (λ j. 1 ≤ j) numbers) (exact : (j : ℕ) → 1 ≤ j → IsMarked marks j
    ↔ Contains numbers j) where
  module _ (stack : List (Option Trace)) (numbered : List (ℕ × Trace))
      (f : AreFound P.problem n marks stack) (a : AreNumbered stack numbered) where
    some_of : (j : ℕ) → Contains numbers j → MarksName marks j
    some_of j c =
        let some : 1 ≤ j = subst (λ i. 1 ≤ i) c.2 (low c.0 j c.1) in
        (some, (exact j some).1 c)

    -- one that is there is needed
    found : (k : ℕ) (t : Trace) → Contains numbered (k, t) → IsTraceIn f.at.run (EntryOf k) t
        × IsNeeded f.at.run.entries (MarksName marks) k
    found k t c =
        let s = a.sound k t c in
        f.slots k (Some t) s.0 (omega (arith, s.1, f.height))
        (subst (λ i. slice_get stack (i - k) ≡ Some (Some t)) f.height s.2)

    -- one that is needed is there
    there : (j : ℕ) → IsNeeded f.at.run.entries (MarksName marks) j
        → Contains (map (λ x. x.0) numbered) j
    there j reached =
        let b : (1 ≤ j) × (j ≤ length f.at.run.entries) =
        reached_within P problem f.at.runs marks f.size reached in
        go b.0 b.1 (slice_get_cases stack (length f.at.run.entries - j)).1
      where
        at_slot : (o : Option Trace) → 1 ≤ j → j ≤ length f.at.run.entries
            → slice_get stack (length f.at.run.entries - j) ≡ Some o → IsFound f.at.run marks j o
            → Contains (map (λ x. x.0) numbered) j
        at_slot None some within at none = absurd (none reached)
        at_slot (Some t) some within at is =
            contains_map (λ (x : ℕ × Trace). x.0) numbered (j, t) j
            (a.complete j t some (omega (arith, within, f.height))
            (subst (λ i. slice_get stack (i - j) ≡ Some (Some t)) (sym f.height) at)) refl

        go : 1 ≤ j → j ≤ length f.at.run.entries
            → (((o : Option Trace) × (length f.at.run.entries - j < length stack)
            × (slice_get stack (length f.at.run.entries - j) ≡ Some o)
            × (get_or stack (length f.at.run.entries - j) o ≡ o))
            ⊎ ((length stack ≤ length f.at.run.entries - j)
            × (slice_get stack (length f.at.run.entries - j) ≡ None)))
            → Contains (map (λ x. x.0) numbered) j
        go some within (inl (o, l, at, e)) = at_slot o some within at (f.slots j o some within at)
        go some within (inr past) = absurd (omega (arith, past.0, some, within, f.height))

    lists : ListsNeeded f.at.run.entries numbers (map (λ x. x.0) numbered)
    lists = record {
      ascending = a.ascending;
      exact = λ j. (
        (λ c. let r = map_contains (λ (x : ℕ × Trace). x.0) numbered j c in
            subst (IsNeeded f.at.run.entries (Contains numbers)) r.2
            (need_more f.at.run.entries (MarksName marks) (Contains numbers)
            (λ i m. (exact i m.0).0 m.1) (found r.0.0 r.0.1 r.1).1)),
        (λ needed. there j (need_more f.at.run.entries (Contains numbers) (MarksName marks) some_of
            needed)),
      );
    }

    pub are_needed : AreNeededTraces P.problem n numbers numbered
    are_needed = record {
      at = f.at;
      lists = lists;
      traces =
          λ k d within. (found (get_or numbered k d).0 (get_or numbered k d).1
          (Contains-get_or numbered k d within)).0;
    }

-- their numbers alone are what is needed
pub needed_alone : {P : Problem} {n : ℕ} {numbers : List ℕ} {traces : List (ℕ × Trace)}
    → AreNeededTraces P n numbers traces → AreNeededFor P n numbers (map (λ x. x.0) traces)
needed_alone h = record { at = h.at; lists = h.lists }
