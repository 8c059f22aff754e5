-- The entries that steps need: which ones they are can be decided, and there is one list of them.
-- `needed_dec` decides, `needed_list` makes the list with the traces, and `needed_once` says that
-- there is one: numbers that ascend are known by their members (`rises_once`).
use Rattle.nc_algebra.proofs.Finite.{among_contains, contains_among}
use Rattle.nc_algebra.proofs.Orders.{Decided, least, nat_dec, nat_order}
use Rattle.nc_algebra.specs.Lists.{Among}
use Rattle.nc_algebra.specs.Monomials.{Monomial}
use Rattle.nc_algebra.specs.Polynomials.{Polynomial}
use Rattle.nc_algebra.specs.Problems.{IsProblem, NamedProblem}
use Rattle.nc_algebra.specs.Elements.{Setting}
use Rattle.nc_cofactor.proofs.Named.{names_earlier}
use Rattle.nc_cofactor.proofs.Needing.{needed_bounded}
use Rattle.nc_cofactor.proofs.Once.{trace_once}
use Rattle.nc_cofactor.specs.Claims.{ListsNeeded, numbers_of}
use Rattle.nc_cofactor.specs.Terms.{IsNeeded, Names, StartNames}
use Rattle.nc_cofactor.specs.Traces.{IsTraceIn}
use Rattle.nc_snapshot.specs.declared.outcome.Listed.TheVariants.{Entry as EntryOf}
use Rattle.nc_theory.specs.Reductions.{Reduction}
use Rattle.nc_theory.specs.Runs.{SequentialRun}
use Rattle.nc_theory.specs.States.{Entry, Start, State, Step, Trace}
use Rattle.nc_top.proofs.BasisAnswers.{field_of}
use Rattle.std.proofs.Common.{All, Contains, List, None, Option, Some, [], ap, ap₂, arith, drop, get_or, inl, inr, length, map, nat_cmp, refl, slice_get, subst, suc, sym, zero, ℕ, ◌+◌, ◌-◌, ◌<◌, ◌∙◌, ◌∷◌, ◌≡◌, ◌≤◌, ◌⊎◌}
use Rattle.std.proofs.lemmas.List.Elements.{All-from_recursion, recursion_from_All}
use Rattle.std.proofs.lemmas.Map.Keys.{below_from_sorted, sorted_from_strictly_increasing, sorted_tail}
use Rattle.std.proofs.lemmas.Option.{slice_get_cases}
use Rattle.std.specs.List.{AllByRecursion}
use Rattle.std.specs.List.Sorted.{IsStrictlyIncreasing, IsStrictlySortedBy}

-- ---- numbers that ascend

-- each number is less than all behind it
abbrev Rises : List ℕ → Type 0
Rises [] = Unit {0}
Rises (x ∷ xs) = ((y : ℕ) → Among y xs → x < y) × Rises xs

nothing_among : (xs : List ℕ) → ((j : ℕ) → Among j xs → ⊥) → xs ≡ []
nothing_among [] none = refl
nothing_among (x ∷ xs) none = absurd (none x (inl refl))

-- two such lists of the same numbers are one
rises_once : (xs ys : List ℕ) → Rises xs → Rises ys → ((j : ℕ) → Among j xs → Among j ys)
    → ((j : ℕ) → Among j ys → Among j xs) → xs ≡ ys
rises_once [] ys r s to from = sym (nothing_among ys from)
rises_once (x ∷ xs) [] r s to from = absurd (to x (inl refl))
rises_once (x ∷ xs) (y ∷ ys) r s to from =
    ap₂ (λ (z : ℕ) (zs : List ℕ). z ∷ zs) head
    (rises_once xs ys r.1 s.1 (λ j a. tail_to j a (to j (inr a)))
    (λ j a. tail_from j a (from j (inr a))))
  where
    head_by : Among x (y ∷ ys) → Among y (x ∷ xs) → x ≡ y
    head_by (inl e) b = e
    head_by (inr a) (inl e) = sym e
    head_by (inr a) (inr b) = absurd (omega (arith, r.0 y b, s.0 x a))

    head : x ≡ y
    head = head_by (to x (inl refl)) (from y (inl refl))

    tail_to : (j : ℕ) → Among j xs → Among j (y ∷ ys) → Among j ys
    tail_to j a (inl e) = absurd (omega (arith, r.0 j a, e, head))
    tail_to j a (inr b) = b

    tail_from : (j : ℕ) → Among j ys → Among j (x ∷ xs) → Among j xs
    tail_from j a (inl e) = absurd (omega (arith, s.0 j a, e, head))
    tail_from j a (inr b) = b

rises_sorted : (xs : List ℕ) → IsStrictlySortedBy nat_cmp xs → Rises xs
rises_sorted [] s = tt
rises_sorted (x ∷ xs) s =
    (λ y a. below y (contains_from y a), rises_sorted xs (sorted_tail nat_cmp x xs s))
  where
    contains_from : (y : ℕ) → Among y xs → Contains xs y
    contains_from y a = among_contains y xs a

    below : (y : ℕ) → Contains xs y → x < y
    below y c =
        subst (λ (n : ℕ). x < n) c.2 (below_from_sorted (x ∷ xs) 0 (suc c.0) y s (omega arith)
        (omega (arith, c.1)))

rises_from : (xs : List ℕ) → IsStrictlyIncreasing xs → Rises xs
rises_from xs s = rises_sorted xs (sorted_from_strictly_increasing xs s)

first_among : (xs : List ℕ) → 0 < length xs → Among (get_or xs 0 0) xs
first_among [] l = absurd (omega (arith, l))
first_among (x ∷ xs) l = inl refl

increases_at : (xs : List ℕ) → Rises xs → (k : ℕ) → suc k < length xs
    → get_or xs k 0 < get_or xs (suc k) 0
increases_at [] r k l = absurd (omega (arith, l))
increases_at (x ∷ xs) r zero l = r.0 (get_or xs 0 0) (first_among xs (omega (arith, l)))
increases_at (x ∷ xs) r (suc k) l = increases_at xs r.1 k (omega (arith, l))

increases : (xs : List ℕ) → Rises xs → IsStrictlyIncreasing xs
increases xs r k l =
    let next : suc k ≡ k + 1 =
    omega arith in subst (λ (i : ℕ). get_or xs k 0 < get_or xs i 0) next
    (increases_at xs r k (omega (arith, l)))

-- ---- what is named

start_dec : (start : Start) (j : ℕ) → Decided (StartNames start j)
start_dec (Start.a_generator i) j = inr (λ h. h)
start_dec (Start.a_multiple u k v) j = nat_dec k j

abbrev AmongSteps : List Step → ℕ → Type 0
AmongSteps steps j = (step : Step) × Among step steps × (step.number ≡ j)

steps_dec : (steps : List Step) (j : ℕ) → Decided (AmongSteps steps j)
steps_dec [] j = inr (λ (step, a, e). a)
steps_dec (t ∷ steps) j = go (nat_dec t.number j) (steps_dec steps j)
  where
    neither : ¬ (t.number ≡ j) → ¬ AmongSteps steps j → (step : Step) → Among step (t ∷ steps)
        → step.number ≡ j → ⊥
    neither n none step (inl i) e = n (ap (λ (x : Step). x.number) (sym i) ∙ e)
    neither n none step (inr a) e = none (step, a, e)

    go : Decided (t.number ≡ j) → Decided (AmongSteps steps j) → Decided (AmongSteps (t ∷ steps) j)
    go (inl e) d = inl (t, inl refl, e)
    go (inr n) (inl (step, a, e)) = inl (step, inr a, e)
    go (inr n) (inr none) = inr (λ (step, a, e). neither n none step a e)

names_dec : (t : Trace) (j : ℕ) → Decided (Names t j)
names_dec t j = go (start_dec t.start j) (steps_dec t.steps j)
  where
    neither : ¬ StartNames t.start j → ¬ AmongSteps t.steps j → Names t j → ⊥
    neither n none (inl h) = n h
    neither n none (inr (step, c, e)) = none (step, contains_among step t.steps c, e)

    go : Decided (StartNames t.start j) → Decided (AmongSteps t.steps j) → Decided (Names t j)
    go (inl h) d = inl (inl h)
    go (inr n) (inl (step, a, e)) = inl (inr (step, among_contains step t.steps a, e))
    go (inr n) (inr none) = inr (neither n none)

among_dec : (xs : List ℕ) (j : ℕ) → Decided (Among j xs)
among_dec [] j = inr (λ a. a)
among_dec (x ∷ xs) j = go (nat_dec j x) (among_dec xs j)
  where
    neither : ¬ (j ≡ x) → ¬ Among j xs → Among j (x ∷ xs) → ⊥
    neither n none (inl e) = n e
    neither n none (inr a) = none a

    go : Decided (j ≡ x) → Decided (Among j xs) → Decided (Among j (x ∷ xs))
    go (inl e) d = inl (inl e)
    go (inr n) (inl a) = inl (inr a)
    go (inr n) (inr none) = inr (neither n none)

-- ---- what is needed

-- entry k is needed, and its trace names entry j
abbrev Through : List Entry → List ℕ → ℕ → ℕ → Type 0
Through entries numbers j k =
    IsNeeded entries (Contains numbers) k × ((e : Entry) × (slice_get entries (k - 1) ≡ Some e)
    × Names e.trace j)

needed_cases : (entries : List Entry) (numbers : List ℕ) {j : ℕ}
    → IsNeeded entries (Contains numbers) j
    → Contains numbers j ⊎ ((k : ℕ) × Through entries numbers j k)
needed_cases entries numbers (IsNeeded.given c) = inl c
needed_cases entries numbers (IsNeeded.through {j = j} {k = k} needs e at m) =
    inr (k, (needs, (e, at, m)))

number_first : (k n j : ℕ) (others : List ℕ) → 1 ≤ k → k ≤ n → Among j (k ∷ others)
    → (Among j others → (1 ≤ j) × (j ≤ n)) → (1 ≤ j) × (j ≤ n)
number_first k n j others some few (inl e) more = (omega (arith, e, some), omega (arith, e, few))
number_first k n j others some few (inr a) more = more a

-- the numbers of steps are entries
pub numbers_within : (s : Setting) (entries : List Entry) (set : Monomial → Type 0)
    → {f kept : Polynomial} {steps : List Step} → Reduction s entries set f kept steps → (j : ℕ)
    → Among j (numbers_of steps) → (1 ≤ j) × (j ≤ length entries)
numbers_within s entries set (Reduction.finished z) j a = absurd a
numbers_within s entries set (Reduction.subtract w l d chosen c small q rest) j a =
    number_first (d.listed.0 + 1) (length entries) j _ (omega arith) (omega (arith, d.listed.1)) a
    (λ b. numbers_within s entries set rest j b)
numbers_within s entries set (Reduction.keep w l none c e rest) j a =
    numbers_within s entries set rest j a

module _ (P : NamedProblem) (is : IsProblem P) {n : ℕ} {run : State} {last : Option Monomial}
    (runs : SequentialRun P.problem n run last) (numbers : List ℕ) (within : (j : ℕ)
    → Among j numbers → (1 ≤ j) × (j ≤ length run.entries)) where
  abbrev Needed : ℕ → Type 0
  Needed j = IsNeeded run.entries (Contains numbers) j

  earlier : (k j : ℕ) (e : Entry) → 1 ≤ k → slice_get run.entries (k - 1) ≡ Some e → Names e.trace j
      → (1 ≤ j) × (j < k)
  earlier = names_earlier P.problem (field_of P is) runs

  pub needed_within : {j : ℕ} → Needed j → (1 ≤ j) × (j ≤ length run.entries)
  needed_within needed =
      needed_bounded P is runs (Contains numbers) (length run.entries)
      (λ j c. within j (contains_among j numbers c)) needed

  through_dec : (j k : ℕ) → Decided (Needed k) → Decided (Through run.entries numbers j k)
  through_dec j k (inr never) = inr (λ t. never t.0)
  through_dec j k (inl needs) = go (slice_get run.entries (k - 1)) refl
    where
      at : (e : Entry) → slice_get run.entries (k - 1) ≡ Some e → Decided (Names e.trace j)
          → Decided (Through run.entries numbers j k)
      at e here (inl m) = inl (needs, (e, here, m))
      at e here (inr never) =
          inr (λ t. let both : Some e ≡ Some t.1.0 = sym here ∙ t.1.1 in let one : t.1.0 ≡ e = cc in
          never (subst (λ (x : Entry). Names x.trace j) one t.1.2))

      go : (o : Option Entry) → slice_get run.entries (k - 1) ≡ o
          → Decided (Through run.entries numbers j k)
      go None e = inr (λ t. let both : None ≡ Some t.1.0 = sym e ∙ t.1.1 in absurd cc)
      go (Some x) e = at x e (names_dec x.trace j)

  need_step : (gap j : ℕ) → length run.entries < j + suc gap
      → ((k : ℕ) → length run.entries < k + gap → Decided (Needed k)) → Decided (Needed j)
  need_step gap j past later =
      go (among_dec numbers j) (least (Through run.entries numbers j) dec (length run.entries + 1))
    where
      dec_by : (k : ℕ) → (j < k) ⊎ ((j ≡ k) ⊎ (k < j)) → Decided (Through run.entries numbers j k)
      dec_by k (inl l) = through_dec j k (later k (omega (arith, past, l)))
      dec_by k (inr (inl e)) =
          inr (λ t. omega (arith, e, (earlier k j t.1.0 (needed_within t.0).0 t.1.1 t.1.2).1))
      dec_by k (inr (inr l)) =
          inr (λ t. omega (arith, l, (earlier k j t.1.0 (needed_within t.0).0 t.1.1 t.1.2).1))

      dec : (k : ℕ) → Decided (Through run.entries numbers j k)
      dec k = dec_by k (nat_order j k)

      neither : ¬ Among j numbers → ((k : ℕ) → k < length run.entries + 1
          → ¬ Through run.entries numbers j k) → Contains numbers j
          ⊎ ((k : ℕ) × Through run.entries numbers j k) → ⊥
      neither never none (inl c) = never (contains_among j numbers c)
      neither never none (inr (k, t)) = none k (omega (arith, (needed_within t.0).1)) t

      go : Decided (Among j numbers)
          → ((k : ℕ) × (k < length run.entries + 1) × Through run.entries numbers j k
          × ((i : ℕ) → i < k → ¬ Through run.entries numbers j i))
          ⊎ ((k : ℕ) → k < length run.entries + 1 → ¬ Through run.entries numbers j k)
          → Decided (Needed j)
      go (inl a) o = inl (IsNeeded.given (among_contains j numbers a))
      go (inr never) (inl (k, small, t, before)) = inl (IsNeeded.through t.0 t.1.0 t.1.1 t.1.2)
      go (inr never) (inr none) = inr (λ h. neither never none (needed_cases run.entries numbers h))

  need_dec : (gap j : ℕ) → length run.entries < j + gap → Decided (Needed j)
  need_dec zero j past = inr (λ h. omega (arith, (needed_within h).1, past))
  need_dec (suc gap) j past = need_step gap j past (need_dec gap)

  pub needed_dec : (j : ℕ) → Decided (Needed j)
  needed_dec j = need_dec (length run.entries + 1) j (omega arith)

  -- ---- the list

  abbrev numbers_in : List (ℕ × Trace) → List ℕ
  numbers_in l = map (λ x. x.0) l

  -- the needed entries from number k on, with their traces
  record AreFrom (k : ℕ) (l : List (ℕ × Trace)) : Type 0 where
    rises : Rises (numbers_in l)
    low : (j : ℕ) → Among j (numbers_in l) → k ≤ j
    sound : (j : ℕ) → Among j (numbers_in l) → Needed j
    whole : (j : ℕ) → k ≤ j → Needed j → Among j (numbers_in l)
    traces : AllByRecursion (λ x. IsTraceIn run (EntryOf x.0) x.1) l

  list_step : (k : ℕ) → Decided (Needed k) → (l : List (ℕ × Trace)) × AreFrom (k + 1) l
      → (l : List (ℕ × Trace)) × AreFrom k l
  list_step k (inr never) (l, r) = (
    l,
    record {
      rises = r.rises;
      low = λ j a. omega (arith, r.low j a);
      sound = r.sound;
      whole = λ j b h. r.whole j (beyond j b h (nat_order k j)) h;
      traces = r.traces;
    },
  )
    where
      beyond : (j : ℕ) → k ≤ j → Needed j → (k < j) ⊎ ((k ≡ j) ⊎ (j < k)) → k + 1 ≤ j
      beyond j b h (inl m) = omega (arith, m)
      beyond j b h (inr (inl e)) = absurd (never (subst (λ (i : ℕ). Needed i) (sym e) h))
      beyond j b h (inr (inr m)) = absurd (omega (arith, b, m))
  list_step k (inl needs) (l, r) = go (slice_get_cases run.entries (k - 1)).1
    where
      low : (j : ℕ) → Among j (k ∷ numbers_in l) → k ≤ j
      low j (inl e) = omega (arith, e)
      low j (inr a) = omega (arith, r.low j a)

      sound : (j : ℕ) → Among j (k ∷ numbers_in l) → Needed j
      sound j (inl e) = subst (λ (i : ℕ). Needed i) (sym e) needs
      sound j (inr a) = r.sound j a

      whole : (j : ℕ) → k ≤ j → Needed j → (k < j) ⊎ ((k ≡ j) ⊎ (j < k))
          → Among j (k ∷ numbers_in l)
      whole j b h (inl m) = inr (r.whole j (omega (arith, m)) h)
      whole j b h (inr (inl e)) = inl (sym e)
      whole j b h (inr (inr m)) = absurd (omega (arith, b, m))

      go : ((e : Entry) × (k - 1 < length run.entries) × (slice_get run.entries (k - 1) ≡ Some e)
          × (get_or run.entries (k - 1) e ≡ e))
          ⊎ ((length run.entries ≤ k - 1) × (slice_get run.entries (k - 1) ≡ None))
          → (l : List (ℕ × Trace)) × AreFrom k l
      go (inl (e, inside, at, same)) = (
        (k, e.trace) ∷ l,
        record {
          rises = (λ y a. omega (arith, r.low y a), r.rises);
          low = low;
          sound = sound;
          whole = λ j b h. whole j b h (nat_order k j);
          traces = ((e, (needed_within needs).0, at, refl), r.traces);
        },
      )
      go (inr (past, none)) =
          let b : (1 ≤ k) × (k ≤ length run.entries) =
          needed_within needs in absurd (omega (arith, past, b.0, b.1))

  list_from : (count k : ℕ) → length run.entries < k + count → (l : List (ℕ × Trace)) × AreFrom k l
  list_from zero k past = (
    [],
    record {
      rises = tt;
      low = λ j a. absurd a;
      sound = λ j a. absurd a;
      whole = λ j b h. absurd
          (omega (arith, b, past, (needed_within h).1));
      traces = tt;
    },
  )
  list_from (suc count) k past =
      list_step k (needed_dec k) (list_from count (k + 1) (omega (arith, past)))

  -- the needed entries are listed with their traces
  pub record AreListed (l : List (ℕ × Trace)) : Type 0 where
    pub lists : ListsNeeded run.entries numbers (map (λ x. x.0) l)
    pub traces : All (λ x. IsTraceIn run (EntryOf x.0) x.1) l

  pub needed_list : (l : List (ℕ × Trace)) × AreListed l
  needed_list = go (list_from (length run.entries + 1) 0 (omega arith))
    where
      go : (l : List (ℕ × Trace)) × AreFrom 0 l → (l : List (ℕ × Trace)) × AreListed l
      go (l, r) = (
        l,
        record {
          lists = record {
            ascending = increases (numbers_in l) r.rises;
            exact = λ j. (
              λ c. r.sound j (contains_among j (numbers_in l) c),
              λ h. among_contains j (numbers_in l) (r.whole j (omega arith) h),
            );
          };
          traces = All-from_recursion (λ x. IsTraceIn run (EntryOf x.0) x.1) l r.traces;
        },
      )

-- ---- the list is one

same_pairs : (run : State) (a b : List (ℕ × Trace)) → map (λ x. x.0) a ≡ map (λ x. x.0) b
    → AllByRecursion (λ x. IsTraceIn run (EntryOf x.0) x.1) a
    → AllByRecursion (λ x. IsTraceIn run (EntryOf x.0) x.1) b → a ≡ b
same_pairs run [] [] e p q = refl
same_pairs run [] (y ∷ b) e p q = absurd cc
same_pairs run (x ∷ a) [] e p q = absurd cc
same_pairs run (x ∷ a) (y ∷ b) e p q =
    let number : x.0 ≡ y.0 = ap (λ (l : List ℕ). get_or l 0 0) e in
    let others : map (λ z. z.0) a ≡ map (λ z. z.0) b = ap (drop 1) e in
    let trace : x.1 ≡ y.1 =
    trace_once run (EntryOf x.0) x.1 y.1 p.0
    (subst (λ (k : ℕ). IsTraceIn run (EntryOf k) y.1) (sym number) q.0) in
    ap₂ (λ (z : ℕ × Trace) (l : List (ℕ × Trace)). z ∷ l)
    (ap₂ (λ (k : ℕ) (t : Trace). (k, t)) number trace) (same_pairs run a b others p.1 q.1)

pub needed_once : (run : State) (numbers : List ℕ) (a b : List (ℕ × Trace))
    → ListsNeeded run.entries numbers (map (λ x. x.0) a)
    → ListsNeeded run.entries numbers (map (λ x. x.0) b)
    → All (λ x. IsTraceIn run (EntryOf x.0) x.1) a → All (λ x. IsTraceIn run (EntryOf x.0) x.1) b
    → a ≡ b
needed_once run numbers a b l m p q =
    same_pairs run a b (rises_once (map (λ x. x.0) a) (map (λ x. x.0) b)
    (rises_from (map (λ x. x.0) a) l.ascending) (rises_from (map (λ x. x.0) b) m.ascending)
    (λ j h. contains_among j (map (λ x. x.0) b)
    ((m.exact j).1 ((l.exact j).0 (among_contains j (map (λ x. x.0) a) h))))
    (λ j h. contains_among j (map (λ x. x.0) a)
    ((l.exact j).1 ((m.exact j).0 (among_contains j (map (λ x. x.0) b) h)))))
    (recursion_from_All (λ x. IsTraceIn run (EntryOf x.0) x.1) a p)
    (recursion_from_All (λ x. IsTraceIn run (EntryOf x.0) x.1) b q)
