-- What holds of the window of a desk is kept by each event.
-- A claim puts its node in its place by signature, under an index that was free and the number of a
-- new claim. A signature that is committed was the next one, so all others in the window still
-- wait. The claim that takes the last free index takes the least signature that is not handed out;
-- so where there is room for one at least and no index is free, the next signature is in the window
-- (`full`). All other events free an index or leave the signatures as they are.
use Rattle.nc_algebra.proofs.Finite.{among_contains, contains_among}
use Rattle.nc_algebra.proofs.Monomials.{monomial_laws, monomials_compare}
use Rattle.nc_algebra.proofs.Orders.{Decided, less_from_compare, less_from_test, compare_less}
use Rattle.nc_algebra.specs.Elements.{IsLess, Setting, generator_weight}
use Rattle.nc_algebra.specs.Lists.{Among}
use Rattle.nc_algebra.specs.Monomials.{IsMonomialLess, Monomial, compare_monomials, same_monomial}
use Rattle.nc_algebra.specs.Primes.{IsField}
use Rattle.nc_algebra.specs.Problems.{NamedProblem}
use Rattle.nc_theory.proofs.Added.{pairs_from, pairs_unmapped, Inserts, IsSymmetric, Pairs, adds_behind, adds_map, adds_permutes, among_here, among_map, among_mapped, among_more, each_at, each_from, each_less, each_map, each_more, pairs_all, pairs_around, pairs_back, pairs_less, pairs_map, pairs_mapped, pairs_more}
use Rattle.nc_theory.proofs.Ascent.{waiting}
use Rattle.nc_theory.proofs.Desk.{IsLaid, event_runs, found, own_stands, refused_or_laid, snapshot, work_keeps}
use Rattle.nc_theory.proofs.Events.{held_dec}
use Rattle.nc_theory.proofs.Plays.{some_same}
use Rattle.nc_theory.specs.Desk.{after_alone, after_freed, emptied, freed_from, Abandoned, Abandons, Advances, Claims, Desk, Does, Event, IsFirstUnheld, IsGiven, IsHeld, IsLawful, IsReadyWork, Node, Plays, Submits, Submitted, Ticket, Work, after_claimed, count_from, generation_at, insert_node, laid, node_at, node_of, open_desk, with_work, without_node}
use Rattle.nc_theory.specs.Runs.{Handles, IsNext, IsWaiting, Outcome, SequentialRun, state_after}
use Rattle.nc_theory.specs.States.{State}
use Rattle.nc_theory.specs.Windows.{AreFromOneClaim, IsFromClaim, WindowLaw, generation_of}
use Rattle.std.proofs.Common.{ap₂, length, cond, Bool, Contains, List, None, Option, Some, [], ap, append-nil, arith, cond, false, inl, inr, le_refl, map, nat_eq, refl, subst, suc, sym, true, zero, ℕ, ◌*◌, ◌+◌, ◌++◌, ◌<◌, ◌∙◌, ◌∷◌, ◌≡◌, ◌≢◌, ◌≤◌, ◌⊎◌}
use Rattle.std.proofs.lemmas.Bool.Decides.{nat_tests}
use Rattle.std.proofs.lemmas.List.Sorted.{length_permutation}
use Rattle.std.specs.Option.{is_some}
use Rattle.std.proofs.lemmas.Map.Keys.{IsDistinct-IsPermutation}
use Rattle.std.proofs.lemmas.Map.Made.{AllPairs-from_IsDistinct, IsDistinct-from_AllPairs}
use Rattle.std.specs.Bool.{Decides}
use Rattle.std.proofs.lemmas.Bool.{eq-eqb, eqb-true, false≢true}
use Rattle.std.proofs.lemmas.List.Sorted.{IsPermutation-refl, IsPermutation-sym, IsPermutation-trans}
use Rattle.std.specs.List.{AllByRecursion}
use Rattle.std.specs.Ordering.{is_lt}
use Rattle.std.specs.Prelude.{IsPermutation}

-- ---- the window as lists of signatures and of indices

abbrev pub signatures : List Node → List Monomial
signatures ns = map (λ n. n.signature) ns

abbrev pub indices : List Node → List ℕ
indices ns = map (λ n. n.index) ns

differ : {X : Type 0} → IsSymmetric (λ (x : X) (y : X). x ≢ y)
differ x y n e = n (sym e)

-- ---- what the operations on a window do to it

insert_adds : (weight : ℕ → ℕ) (n : Node) (window : List Node)
    → Inserts n window (insert_node weight n window)
insert_adds weight n [] = Inserts.here
insert_adds weight n (m ∷ ns) =
    go (is_lt (compare_monomials weight n.signature m.signature)) (insert_adds weight n ns)
  where
    go : (b : Bool) → Inserts n ns (insert_node weight n ns)
        → Inserts n (m ∷ ns) (cond b (n ∷ m ∷ ns) (m ∷ insert_node weight n ns))
    go true a = Inserts.here
    go false a = Inserts.later a

insert_ascends : (s : Setting) (n : Node) (window : List Node)
    → AllByRecursion (λ τ. τ ≢ n.signature) (signatures window)
    → Pairs (IsLess s) (signatures window)
    → Pairs (IsLess s) (signatures (insert_node (generator_weight s) n window))
insert_ascends s n [] other h = (tt, tt)
insert_ascends s n (m ∷ ns) other h =
    go (is_lt (compare_monomials (generator_weight s) n.signature m.signature)) refl
    (insert_ascends s n ns other.1 h.1)
  where
    below : (τ : Monomial) → IsLess s n.signature m.signature → IsLess s m.signature τ
        → IsLess s n.signature τ
    below τ l k = (monomial_laws (generator_weight s)).trans n.signature m.signature τ l k

    above : is_lt (compare_monomials (generator_weight s) n.signature m.signature) ≡ false
        → IsLess s n.signature m.signature
        ⊎ ((n.signature ≡ m.signature) ⊎ IsLess s m.signature n.signature)
        → IsLess s m.signature n.signature
    above e (inl l) =
        absurd (false≢true (sym e ∙ ap is_lt
        (compare_less (compare_monomials (generator_weight s))
        (IsMonomialLess (generator_weight s)) (monomials_compare (generator_weight s))
        (monomial_laws (generator_weight s)).irrefl (monomial_laws (generator_weight s)).trans
        n.signature m.signature l)))
    above e (inr (inl i)) = absurd (other.0 (sym i))
    above e (inr (inr l)) = l

    go : (b : Bool) → is_lt (compare_monomials (generator_weight s) n.signature m.signature) ≡ b
        → Pairs (IsLess s) (signatures (insert_node (generator_weight s) n ns))
        → Pairs (IsLess s) (signatures
        (cond b (n ∷ m ∷ ns) (m ∷ insert_node (generator_weight s) n ns)))
    go true e k =
        let l : IsLess s n.signature m.signature =
        less_from_compare (compare_monomials (generator_weight s))
        (IsMonomialLess (generator_weight s)) (monomials_compare (generator_weight s))
        n.signature m.signature (less_from_test
        (compare_monomials (generator_weight s) n.signature m.signature) e) in (
          (
            l,
            each_map (IsLess s m.signature) (IsLess s n.signature) (λ τ k. below τ l k)
                (signatures ns) h.0,
          ),
          h,
        )
    go false e k = (
      each_more (IsLess s m.signature)
          (adds_map (λ x. x.signature) (insert_adds (generator_weight s) n ns))
          (above e ((monomial_laws (generator_weight s)).total n.signature m.signature)) h.0,
      k,
    )

-- where the generation at an index is odd, a node has it, and is the one that is taken out or given
-- a work
abbrev At : ℕ → ℕ → List Node → Type 0
At i c window =
    (n : Node) × (n.index ≡ i) × (n.generation ≡ 2 * c + 1)
    × Inserts n (without_node i window) window
    × ((w : Work) → Inserts (laid n w) (without_node i window) (with_work i w window))
    × (node_at window i ≡ Some n)

node_at_generation : (i c : ℕ) (window : List Node) → 2 * c + 1 ≡ generation_at window i
    → At i c window
node_at_generation i c [] e = absurd (omega (arith, e))
node_at_generation i c (n ∷ ns) e = go (nat_eq n.index i) refl e (node_at_generation i c ns)
  where
    go : (b : Bool) → nat_eq n.index i ≡ b → 2 * c + 1 ≡ cond b n.generation (generation_at ns i)
        → (2 * c + 1 ≡ generation_at ns i → At i c ns) → (m : Node) × (m.index ≡ i)
        × (m.generation ≡ 2 * c + 1) × Inserts m (cond b ns (n ∷ without_node i ns)) (n ∷ ns)
        × ((w : Work) → Inserts (laid m w) (cond b ns (n ∷ without_node i ns))
        (cond b (laid n w ∷ ns) (n ∷ with_work i w ns)))
        × (cond b (Some n) (node_at ns i) ≡ Some m)
    go true d g f = (n, eqb-true n.index i d, sym g, Inserts.here, λ w. Inserts.here, refl)
    go false d g f =
        let t : At i c ns =
        f g in (t.0, t.1, t.2, Inserts.later t.3, λ w. Inserts.later (t.4 w), t.5)

-- where no index stands twice, a node that is found by its signature is the one that its index
-- takes out
found_out : (window : List Node) (τ : Monomial) (n : Node) → node_of window τ ≡ Some n
    → Pairs (λ i j. i ≢ j) (indices window) → (n.signature ≡ τ)
    × Inserts n (without_node n.index window) window
found_out [] τ n e h = let none : ⊥ = cc in absurd none
found_out (m ∷ ns) τ n e h = go (same_monomial m.signature τ) refl e (λ k. found_out ns τ n k h.1)
  where
    first : (n : Node) → m ≡ n → (b : Bool) → nat_eq m.index n.index ≡ b
        → Inserts n (cond b ns (m ∷ without_node n.index ns)) (m ∷ ns)
    first n i true d = subst (λ x. Inserts x ns (m ∷ ns)) i Inserts.here
    first n i false d = absurd (false≢true (sym d ∙ eq-eqb m.index n.index (ap (λ x. x.index) i)))

    behind : Inserts n (without_node n.index ns) ns → (b : Bool) → nat_eq m.index n.index ≡ b
        → Inserts n (cond b ns (m ∷ without_node n.index ns)) (m ∷ ns)
    behind a true d =
        absurd ((each_less (λ j. m.index ≢ j) (adds_map (λ x. x.index) a) h.0).0
        (eqb-true m.index n.index d))
    behind a false d = Inserts.later a

    go : (b : Bool) → same_monomial m.signature τ ≡ b → cond b (Some m) (node_of ns τ) ≡ Some n
        → (node_of ns τ ≡ Some n → (n.signature ≡ τ) × Inserts n (without_node n.index ns) ns)
        → (n.signature ≡ τ) × Inserts n (without_node n.index (m ∷ ns)) (m ∷ ns)
    go true d i f =
        let same : m ≡ n =
        some_same m n i in (
          ap (λ x. x.signature) (sym same)
              ∙ (monomial_laws (λ j. j)).same_eq m.signature τ d,
          first n same (nat_eq m.index n.index) refl,
        )
    go false d i f =
        let t : (n.signature ≡ τ) × Inserts n (without_node n.index ns) ns =
        f i in (t.0, behind t.1 (nat_eq m.index n.index) refl)

-- ---- the indices of an open desk

from_least : (i n m : ℕ) → i ≤ n → AllByRecursion (λ j. i ≤ j) (count_from n m)
from_least i n zero l = tt
from_least i n (suc m) l = (l, from_least i (n + 1) m (omega arith))

counted_apart : (i n : ℕ) → Pairs (λ j k. j ≢ k) (count_from i n)
counted_apart i zero = tt
counted_apart i (suc n) = (
  each_map (λ j. i + 1 ≤ j) (λ j. i ≢ j) (λ j l e. omega (arith, l, e)) (count_from (i + 1) n)
      (from_least (i + 1) (i + 1) n (omega arith)),
  counted_apart (i + 1) n,
)

-- ---- claims

claim_once : (c e : ℕ) (work : Option Work) → generation_of c work ≡ generation_of e work → c ≡ e
claim_once c e None i = omega (arith, i)
claim_once c e (Some w) i = omega (arith, i)

one_claim_back : IsSymmetric (λ (n : Node) (m : Node). ¬ AreFromOneClaim n m)
one_claim_back n m h t = h (t.0, t.2, t.1)

-- a node with an odd generation has no work, and one that is laid into it keeps the claim
claim_kept : (n : Node) (w : Work) (k : ℕ) → n.generation ≡ 2 * k + 1 → (c : ℕ) → IsFromClaim c n
    → (e : ℕ) → IsFromClaim e (laid n w) → IsFromClaim e n
claim_kept n w k odd c from e i = go n.work from
  where
    go : (work : Option Work) → n.generation ≡ generation_of c work
        → n.generation ≡ generation_of e work
    go None j = omega (arith, i)
    go (Some v) j = absurd (omega (arith, j, odd))

claim_laid : (n : Node) (w : Work) (k : ℕ) → n.generation ≡ 2 * k + 1 → (c : ℕ) → IsFromClaim c n
    → IsFromClaim c (laid n w)
claim_laid n w k odd c from = go n.work from
  where
    go : (work : Option Work) → n.generation ≡ generation_of c work → n.generation + 1 ≡ 2 * c + 2
    go None j = omega (arith, j)
    go (Some v) j = absurd (omega (arith, j, odd))

number_decides : (i j : ℕ) → Decides (nat_eq i j) (i ≡ j)
number_decides i j = (eqb-true i j, eq-eqb i j)

numbers_flip : (i j : ℕ) → nat_eq i j ≡ nat_eq j i
numbers_flip i j = grind (arith, nat_tests)

-- ---- what is kept

module _ (P : NamedProblem) (capacity : ℕ) where
  abbrev IsMade : ℕ → Node → Type 0
  IsMade claimed n = (c : ℕ) × (c < claimed) × IsFromClaim c n

  -- what holds of a work that was taken in where so many were handled
  abbrev HoldsLawful : ℕ → Node → Type 0
  HoldsLawful handled n =
      (w : Work) → n.work ≡ Some w → IsLawful w × (w.problem ≡ P) × (w.number ≤ handled)
      × (w.signature ≡ n.signature)

  holds_later : (a b : ℕ) → a ≤ b → (n : Node) → HoldsLawful a n → HoldsLawful b n
  holds_later a b l n h w e =
      let t : IsLawful w × (w.problem ≡ P) × (w.number ≤ a) × (w.signature ≡ n.signature) =
      h w e in (t.0, t.1, omega (arith, t.2, l), t.3)

  record Kept (d : Desk) : Type 0 where
    ascends : Pairs (IsLess P.problem.setting) (signatures d.window)
    waits : AllByRecursion (IsWaiting P.problem d.state d.last) (signatures d.window)
    distinct : Pairs (λ i j. i ≢ j) (d.free ++ indices d.window)
    indices_are : IsPermutation (count_from 0 capacity) (d.free ++ indices d.window)
    claimed : AllByRecursion (IsMade d.claimed) d.window
    apart : Pairs (λ n m. ¬ AreFromOneClaim n m) d.window
    works : AllByRecursion (HoldsLawful d.handled) d.window
    full : 1 ≤ capacity → d.free ≡ [] → (τ : Monomial) → IsNext P.problem d.state d.last τ
        → Among τ (signatures d.window)

  opened_kept : Kept (open_desk capacity)
  opened_kept =
      record {
        ascends = tt;
        waits = tt;
        distinct = subst (Pairs (λ i j. i ≢ j)) (sym (append-nil (count_from 0 capacity)))
            (counted_apart 0 capacity);
        indices_are = subst (IsPermutation (count_from 0 capacity))
            (sym (append-nil (count_from 0 capacity))) (IsPermutation-refl (count_from 0 capacity));
        claimed = tt;
        apart = tt;
        works = tt;
        full = λ l e τ next. absurd (some_free capacity l e);
      }
    where
      some_free : (n : ℕ) → 1 ≤ n → count_from 0 n ≡ [] → ⊥
      some_free zero l e = omega (arith, l)
      some_free (suc n) l e = cc

  held_among : (d : Desk) (τ : Monomial) → IsHeld d τ → Among τ (signatures d.window)
  held_among d τ (n, c, e) =
      subst (λ σ. Among σ (signatures d.window)) e
      (among_map (λ m. m.signature) n d.window (contains_among n d.window c))

  among_held : (d : Desk) (τ : Monomial) → Among τ (signatures d.window) → IsHeld d τ
  among_held d τ a =
      let t : (n : Node) × Among n d.window × (n.signature ≡ τ) =
      among_mapped (λ m. m.signature) τ d.window a in
      (t.0, among_contains t.0 d.window t.1, t.2)

  -- a node is freed: what is left of the window, in a state where what is left waits
  freed : (d : Desk) → Kept d → (n : Node) (rest : List Node) → Inserts n rest d.window
      → (handled : ℕ) → d.handled ≤ handled
      → (state : State) (last : Option Monomial) (committed dropped abandoned : ℕ)
      → AllByRecursion (IsWaiting P.problem state last) (signatures rest) → (i : ℕ) → n.index ≡ i
      → Kept (record d {
        handled = handled;
        state = state;
        last = last;
        window = rest;
        free = i ∷ d.free;
        committed = committed;
        dropped = dropped;
        abandoned = abandoned;
      })
  freed d k n rest a handled later state last committed dropped abandoned waits i e =
      record {
        ascends = pairs_less (IsLess P.problem.setting) (adds_map (λ m. m.signature) a)
            k.ascends;
        waits = waits;
        distinct = (
          pairs_around (λ i j. i ≢ j) differ added k.distinct,
          pairs_less (λ i j. i ≢ j) added k.distinct,
        );
        indices_are = IsPermutation-trans (count_from 0 capacity) (d.free ++ indices d.window)
            (i ∷ (d.free ++ indices rest)) k.indices_are
            (IsPermutation-sym (i ∷ (d.free ++ indices rest)) (d.free ++ indices d.window)
            (adds_permutes added));
        claimed = (each_less (IsMade d.claimed) a k.claimed).1;
        apart = pairs_less (λ n m. ¬ AreFromOneClaim n m) a k.apart;
        works = each_map (HoldsLawful d.handled) (HoldsLawful handled)
            (holds_later d.handled handled later) rest
            (each_less (HoldsLawful d.handled) a k.works).1;
        full = λ l none τ next. let empty : ⊥ = cc in absurd empty;
      }
    where
      added : Inserts i (d.free ++ indices rest) (d.free ++ indices d.window)
      added = subst (λ j. Inserts j (d.free ++ indices rest) (d.free ++ indices d.window)) e
          (adds_behind d.free (adds_map (λ m. m.index) a))

  -- what was left in the window still waits where the state is the same
  left_waits : (d : Desk) → Kept d → (n : Node) (rest : List Node) → Inserts n rest d.window
      → AllByRecursion (IsWaiting P.problem d.state d.last) (signatures rest)
  left_waits d k n rest a =
      (each_less (IsWaiting P.problem d.state d.last) (adds_map (λ m. m.signature) a) k.waits).1

  own_apart : (d : Desk) → Kept d → Pairs (λ i j. i ≢ j) (indices d.window)
  own_apart d k = pairs_back (λ i j. i ≢ j) d.free (indices d.window) k.distinct

  abandon_keeps : (d : Desk) (t : Ticket) → IsGiven t → (answer : Abandoned) (d' : Desk)
      → Abandons d t answer d' → Kept d → Kept d'
  abandon_keeps d t given answer d' (Abandons.is_gone n) k = k
  abandon_keeps d t given answer d' (Abandons.is_freed g) k =
      let a : At t.index given.0 d.window =
      node_at_generation t.index given.0 d.window (sym given.1 ∙ g) in
      freed d k a.0 (without_node t.index d.window) a.3 d.handled (le_refl d.handled) d.state d.last
      d.committed d.dropped (d.abandoned + 1)
      (left_waits d k a.0 (without_node t.index d.window) a.3) t.index a.1

  laid_keeps : (d : Desk) (t : Ticket) → IsGiven t → (w : Work) → IsLawful w → IsLaid P d t w
      → Kept d → Kept (record d { window = with_work t.index w d.window })
  laid_keeps d t given w lawful (node, g, p, l, i, s) k =
      go (node_at_generation t.index given.0 d.window (sym given.1 ∙ g))
    where
      same : signatures (with_work t.index w d.window) ≡ signatures d.window
      same = work_keeps (λ n. n.signature) w (λ n. refl) t.index d.window

      numbers : indices (with_work t.index w d.window) ≡ indices d.window
      numbers = work_keeps (λ n. n.index) w (λ n. refl) t.index d.window

      go : At t.index given.0 d.window
          → Kept (record d { window = with_work t.index w d.window })
      go (n, at, odd, out, worked, found) =
          record {
            ascends = subst (Pairs (IsLess P.problem.setting)) (sym same) k.ascends;
            waits = subst (AllByRecursion (IsWaiting P.problem d.state d.last)) (sym same) k.waits;
            distinct = subst (λ xs. Pairs (λ i j. i ≢ j) (d.free ++ xs)) (sym numbers) k.distinct;
            indices_are = subst (λ xs. IsPermutation (count_from 0 capacity) (d.free ++ xs))
                (sym numbers) k.indices_are;
            claimed = each_more (IsMade d.claimed) (worked w)
                (made.0.0, made.0.1, claim_laid n w given.0 odd made.0.0 made.0.2) made.1;
            apart = pairs_more (λ n m. ¬ AreFromOneClaim n m) one_claim_back (worked w)
                (each_map (λ m. ¬ AreFromOneClaim n m) (λ m. ¬ AreFromOneClaim (laid n w) m) other
                (without_node t.index d.window)
                (pairs_around (λ n m. ¬ AreFromOneClaim n m) one_claim_back out k.apart))
                (pairs_less (λ n m. ¬ AreFromOneClaim n m) out k.apart);
            works = each_more (HoldsLawful d.handled) (worked w) held held_others;
            full = λ l e τ next. subst (Among τ) (sym same) (k.full l e τ next);
          }
        where
          made : IsMade d.claimed n × AllByRecursion (IsMade d.claimed)
              (without_node t.index d.window)
          made = each_less (IsMade d.claimed) out k.claimed

          held_others : AllByRecursion (HoldsLawful d.handled) (without_node t.index d.window)
          held_others = (each_less (HoldsLawful d.handled) out k.works).1

          held : HoldsLawful d.handled (laid n w)
          held v e =
              subst (λ x. IsLawful x × (x.problem ≡ P) × (x.number ≤ d.handled)
              × (x.signature ≡ n.signature)) (some_same w v e) (
                lawful,
                p,
                l,
                sym s ∙ ap (λ x. x.signature) (some_same node n (sym i ∙ found)),
              )

          other : (m : Node) → ¬ AreFromOneClaim n m → ¬ AreFromOneClaim (laid n w) m
          other m h (c, i, j) = h (c, claim_kept n w given.0 odd made.0.0 made.0.2 c i, j)

  submit_keeps : (d : Desk) (t : Ticket) → IsGiven t → (w : Work) → IsLawful w
      → (answer : Submitted) (d' : Desk) → Submits P d t w answer d' → Kept d → Kept d'
  submit_keeps d t given w lawful answer d' s k =
      elim (refused_or_laid P d t w answer d' s) [
        | inl e ↦ subst Kept e k
        | inr l ↦ subst Kept l.1 (laid_keeps d t given w lawful l.0 k)
      ]

  -- a claim's node goes into the window
  claim_keeps : (d : Desk) → Kept d → (i : ℕ) (others : List ℕ) → d.free ≡ i ∷ others
      → (τ : Monomial) → IsFirstUnheld P.problem d τ
      → Kept (after_claimed (generator_weight P.problem.setting) d i others τ)
  claim_keeps d k i others free τ first =
      record {
        ascends = insert_ascends P.problem.setting n d.window unheld k.ascends;
        waits = each_more (IsWaiting P.problem d.state d.last) (adds_map (λ m. m.signature) added)
            first.waits k.waits;
        distinct = pairs_more (λ i j. i ≢ j) differ moved apart.0 apart.1;
        indices_are = IsPermutation-trans (count_from 0 capacity) (i ∷ (others ++ indices d.window))
            (others ++ indices whole) (subst
            (λ xs. IsPermutation (count_from 0 capacity) (xs ++ indices d.window)) free
            k.indices_are)
            (adds_permutes moved);
        claimed = each_more (IsMade (d.claimed + 1)) added (
          d.claimed,
          omega arith,
          refl,
        ) (each_map (IsMade d.claimed) (IsMade (d.claimed + 1))
            (λ m t. (t.0, omega (arith, t.1), t.2)) d.window k.claimed);
        apart = pairs_more (λ n m. ¬ AreFromOneClaim n m) one_claim_back added
            (each_map (IsMade d.claimed) (λ m. ¬ AreFromOneClaim n m) newest d.window k.claimed)
            k.apart;
        works = each_more (HoldsLawful d.handled) added (λ w e. let none : ⊥ = cc in
            absurd none) k.works;
        full = λ l e σ next. held σ next (held_dec P.problem d σ);
      }
    where
      n : Node
      n = record { signature = τ; index = i; generation = 2 * d.claimed + 1; work = None }

      whole : List Node
      whole = insert_node (generator_weight P.problem.setting) n d.window

      added : Inserts n d.window whole
      added = insert_adds (generator_weight P.problem.setting) n d.window

      moved : Inserts i (others ++ indices d.window) (others ++ indices whole)
      moved = adds_behind others (adds_map (λ m. m.index) added)

      apart : Pairs (λ i j. i ≢ j) (i ∷ (others ++ indices d.window))
      apart = subst (λ xs. Pairs (λ i j. i ≢ j) (xs ++ indices d.window)) free k.distinct

      unheld : AllByRecursion (λ σ. σ ≢ τ) (signatures d.window)
      unheld =
          each_from (λ σ. σ ≢ τ) (signatures d.window)
          (λ σ a e. first.unheld (among_held d τ (subst (λ ρ. Among ρ (signatures d.window)) e a)))

      newest : (m : Node) → IsMade d.claimed m → ¬ AreFromOneClaim n m
      newest m (c, l, from) (e, a, b) = omega (arith, l, a, claim_once c e m.work (sym from ∙ b))

      held : (σ : Monomial) → IsNext P.problem d.state d.last σ → Decided (IsHeld d σ)
          → Among σ (signatures whole)
      held σ next (inl h) = among_more (adds_map (λ m. m.signature) added) σ (held_among d σ h)
      held σ next (inr h) =
          subst (λ ρ. Among ρ (signatures whole))
          (sym (least (first.least σ (next.candidate, next.left) h)
          (next.least τ first.waits.0 first.waits.1)))
          (among_here (adds_map (λ m. m.signature) added))
        where
          least : (σ ≡ τ) ⊎ IsLess P.problem.setting τ σ → (τ ≡ σ) ⊎ IsLess P.problem.setting σ τ
              → σ ≡ τ
          least (inl e) o = e
          least (inr l) (inl e) = sym e
          least (inr l) (inr m) =
              absurd ((monomial_laws (generator_weight P.problem.setting)).irrefl τ
              ((monomial_laws (generator_weight P.problem.setting)).trans τ σ τ l m))

  module _ (field : IsField P.problem.setting.prime) where
    -- after a step what is left in the window still waits
    still_waits : (d : Desk) → Kept d → SequentialRun P.problem d.handled d.state d.last
        → (τ : Monomial) → IsNext P.problem d.state d.last τ → (n : Node) (rest : List Node)
        → n.signature ≡ τ → Inserts n rest d.window → (o : Outcome)
        → Handles P.problem.setting d.state τ o
        → AllByRecursion (IsWaiting P.problem (state_after d.state τ o) (Some τ)) (signatures rest)
    still_waits d k run τ next n rest e a o h =
        each_from (IsWaiting P.problem (state_after d.state τ o) (Some τ)) (signatures rest)
        (λ σ m. (waiting P.problem field run τ next h σ).1
        (inl (
          each_at (IsWaiting P.problem d.state d.last) (signatures rest)
              (left_waits d k n rest a) σ m,
          λ i. each_at (λ ρ. n.signature ≢ ρ) (signatures rest) others σ m (e ∙ sym i),
        )))
      where
        others : AllByRecursion (λ ρ. n.signature ≢ ρ) (signatures rest)
        others =
            pairs_around (λ σ ρ. σ ≢ ρ) differ (adds_map (λ m. m.signature) a)
            (pairs_map (IsLess P.problem.setting) (λ σ ρ. σ ≢ ρ)
            (λ σ ρ l i. (monomial_laws (generator_weight P.problem.setting)).irrefl ρ
            (subst (λ x. IsLess P.problem.setting x ρ) i l)) (signatures d.window) k.ascends)

    advance_keeps : {d d' : Desk} → Advances P.problem d d'
        → SequentialRun P.problem d.handled d.state d.last → Kept d → Kept d'
    advance_keeps (Advances.at_end f) run k = k
    advance_keeps (Advances.no_work f none) run k = k
    advance_keeps (Advances.drops {d = d} f τ n w ready not) run k =
        let t : (n.signature ≡ τ) × Inserts n (without_node n.index d.window) d.window =
        found_out d.window τ n ready.held (own_apart d k) in
        freed d k n (without_node n.index d.window) t.1 d.handled (le_refl d.handled) d.state d.last
        d.committed (d.dropped + 1) d.abandoned
        (left_waits d k n (without_node n.index d.window) t.1) n.index refl
    advance_keeps (Advances.commits {d = d} f τ n w ready handles more) run k =
        let t : (n.signature ≡ τ) × Inserts n (without_node n.index d.window) d.window =
        found_out d.window τ n ready.held (own_apart d k) in
        advance_keeps more (SequentialRun.handled run τ ready.next w.outcome handles)
        (freed d k n (without_node n.index d.window) t.1 (suc d.handled) (omega arith)
        (state_after d.state τ w.outcome) (Some τ) (d.committed + 1) d.dropped d.abandoned
        (still_waits d k run τ ready.next n (without_node n.index d.window) t.0 t.1 w.outcome
        handles) n.index refl)

    event_keeps : {d d' : Desk} {e : Event} → Does P d e d'
        → SequentialRun P.problem d.handled d.state d.last → Kept d → Kept d'
    event_keeps (Does.claims (Claims.is_finished f)) run k = k
    event_keeps (Does.claims (Claims.is_none f o)) run k = k
    event_keeps {d} (Does.claims (Claims.is_task f i others free few τ first)) run k =
        claim_keeps d k i others free τ first
    event_keeps {d} {d'} (Does.submits {answer = answer} t given w l s) run k =
        submit_keeps d t given w l answer d' s k
    event_keeps {d} {d'} (Does.abandons {answer = answer} t given a) run k =
        abandon_keeps d t given answer d' a k
    event_keeps (Does.advances a) run k = advance_keeps a run k

    play_keeps : {d d' : Desk} {events : List Event} → Plays P events d d'
        → SequentialRun P.problem d.handled d.state d.last → Kept d → Kept d'
    play_keeps Plays.ends run k = k
    play_keeps (Plays.goes e does more) run k =
        play_keeps more (event_runs P does run) (event_keeps does run k)

    kept_law : (d : Desk) → Kept d → WindowLaw P capacity d
    kept_law d k = record {
      ascends = pairs_all
          (λ n m. IsLess P.problem.setting n.signature m.signature) d.window
          (pairs_mapped (λ n. n.signature) (IsLess P.problem.setting) d.window k.ascends);
      waits = λ n c. each_at (IsWaiting P.problem d.state d.last) (signatures d.window)
          k.waits n.signature (among_map (λ m. m.signature) n d.window
          (contains_among n d.window c));
      indices = k.indices_are;
      claimed = λ n c. each_at (IsMade d.claimed) d.window
          k.claimed n (contains_among n d.window c);
      apart = pairs_all (λ n m. ¬ AreFromOneClaim n m) d.window k.apart;
      lawful = λ n w c e. (works n c w e).0;
      own = λ n w c e. let t : IsLawful w × (w.problem ≡ P) × (w.number ≤ d.handled)
          × (w.signature ≡ n.signature) = works n c w e in (t.1, t.2, t.3);
      full = λ l e τ next. among_held d τ (k.full l e τ next);
    }
      where
        works : (n : Node) → Contains d.window n → HoldsLawful d.handled n
        works n c =
            each_at (HoldsLawful d.handled) d.window k.works n (contains_among n d.window c)

    -- and the other way round
    law_kept : (d : Desk) → WindowLaw P capacity d → Kept d
    law_kept d law =
        record {
          ascends = pairs_unmapped (λ n. n.signature) (IsLess P.problem.setting) d.window
              (pairs_from (λ n m. IsLess P.problem.setting n.signature m.signature) d.window
              law.ascends);
          waits = each_from (IsWaiting P.problem d.state d.last) (signatures d.window) waits;
          distinct = pairs_from (λ i j. i ≢ j) (d.free ++ indices d.window)
              (AllPairs-from_IsDistinct number_decides (d.free ++ indices d.window)
              (IsDistinct-IsPermutation nat_eq numbers_flip (count_from 0 capacity)
              (d.free ++ indices d.window) law.indices
              (IsDistinct-from_AllPairs number_decides (count_from 0 capacity)
              (pairs_all (λ i j. i ≢ j) (count_from 0 capacity) (counted_apart 0 capacity)))));
          indices_are = law.indices;
          claimed = each_from (IsMade d.claimed) d.window
              (λ n a. law.claimed n (among_contains n d.window a));
          apart = pairs_from (λ n m. ¬ AreFromOneClaim n m) d.window law.apart;
          works = each_from (HoldsLawful d.handled) d.window
              (λ n a w e. let c = among_contains n d.window a in (
                law.lawful n w c e,
                (law.own n w c e).0,
                (law.own n w c e).1,
                (law.own n w c e).2,
              ));
          full = λ l e τ next. held_among d τ (law.full l e τ next);
        }
      where
        waits : (τ : Monomial) → Among τ (signatures d.window)
            → IsWaiting P.problem d.state d.last τ
        waits τ a =
            let t : (n : Node) × Among n d.window × (n.signature ≡ τ) =
            among_mapped (λ m. m.signature) τ d.window a in
            subst (IsWaiting P.problem d.state d.last) t.2
            (law.waits t.0 (among_contains t.0 d.window t.1))

    -- the window is freed, node by node
    freed_keeps : (ns : List Node) (d : Desk) → d.window ≡ ns → Kept d → Kept (freed_from ns d)
    freed_keeps [] d e k = k
    freed_keeps (n ∷ ns) d e k =
        let a : Inserts n ns d.window = subst (Inserts n ns) (sym e) Inserts.here in
        freed_keeps ns (after_freed d n ns) refl
        (freed d k n ns a d.handled (le_refl d.handled) d.state d.last d.committed
        (d.dropped + cond (is_some n.work) 1 0) (d.abandoned + cond (is_some n.work) 0 1)
        (left_waits d k n ns a) n.index refl)

    pub emptied_law : (d : Desk) → WindowLaw P capacity d → WindowLaw P capacity (emptied d)
    emptied_law d law =
        kept_law (emptied d) (freed_keeps d.window d refl (law_kept d law))

    -- with no window a signature may be handled alone
    alone_keeps : (d : Desk) → d.window ≡ [] → Kept d → (τ : Monomial) (o : Outcome)
        → Kept (after_alone d τ o)
    alone_keeps d e k τ o =
        record {
          ascends = k.ascends;
          waits = subst (λ w. AllByRecursion (IsWaiting P.problem (state_after d.state τ o)
              (Some τ)) (signatures w)) (sym e) tt;
          distinct = k.distinct;
          indices_are = k.indices_are;
          claimed = k.claimed;
          apart = k.apart;
          works = each_map (HoldsLawful d.handled) (HoldsLawful (suc d.handled))
              (holds_later d.handled (suc d.handled) (omega arith)) d.window k.works;
          full = λ l none σ next. absurd (omega (arith, l, some_free none));
        }
      where
        some_free : d.free ≡ [] → capacity ≡ 0
        some_free none =
            sym (counted capacity 0)
            ∙ (sym (length_permutation (count_from 0 capacity) (d.free ++ indices d.window)
            k.indices_are) ∙ ap₂ (λ f w. length (f ++ indices w)) none e)
          where
            counted : (n i : ℕ) → length (count_from i n) ≡ n
            counted zero i = refl
            counted (suc n) i = let h = counted n (i + 1) in omega (arith, h)

    pub alone_law : (d : Desk) → d.window ≡ [] → WindowLaw P capacity d → (τ : Monomial)
        (o : Outcome) → WindowLaw P capacity (after_alone d τ o)
    alone_law d e law τ o =
        kept_law (after_alone d τ o) (alone_keeps d e (law_kept d law) τ o)

    pub window_law : {events : List Event} {d : Desk} → Plays P events (open_desk capacity) d
        → WindowLaw P capacity d
    window_law {d = d} plays = kept_law d (play_keeps plays SequentialRun.opened opened_kept)

    pub opened_law : WindowLaw P capacity (open_desk capacity)
    opened_law = kept_law (open_desk capacity) opened_kept

    -- each event keeps the law
    pub event_law : {d d' : Desk} {e : Event} → Does P d e d'
        → SequentialRun P.problem d.handled d.state d.last → WindowLaw P capacity d
        → WindowLaw P capacity d'
    event_law {d} {d'} does run law = kept_law d' (event_keeps does run (law_kept d law))

    -- a work over the desk's own state is what handling gives there
    pub own_work : {events : List Event} {d : Desk} → Plays P events (open_desk capacity) d
        → (τ : Monomial) (n : Node) (w : Work) → IsReadyWork P.problem d τ n w
        → w.number ≡ d.handled → Handles P.problem.setting d.state τ w.outcome
    own_work {d = d} plays τ n w ready e = go (play_keeps plays SequentialRun.opened opened_kept)
      where
        run : SequentialRun P.problem d.handled d.state d.last
        run = (snapshot P capacity plays).0

        go : Kept d → Handles P.problem.setting d.state τ w.outcome
        go k = at (found_out d.window τ n ready.held (own_apart d k))
            (each_at (HoldsLawful d.handled) d.window k.works n (found d.window τ n ready.held) w
            ready.work)
          where
            at : (n.signature ≡ τ) × Inserts n (without_node n.index d.window) d.window → IsLawful w
                × (w.problem ≡ P) × (w.number ≤ d.handled) × (w.signature ≡ n.signature)
                → Handles P.problem.setting d.state τ w.outcome
            at (signed, out) (lawful, here, l, same) =
                subst (λ σ. Handles P.problem.setting d.state σ w.outcome) (same ∙ signed)
                (own_stands P field run w lawful here e)
