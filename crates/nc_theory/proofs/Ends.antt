-- Each signature has an outcome, and each run one end.
-- A candidate is some `1 [i] 1` or has a multiple (`source`), so it has an outcome
-- (`handles_exists`). To find the least that waits, the ambiguities of each two entries are listed
-- (`pair`, in `PairAmbiguities.antt`), so all candidates are (`in_all`); `pick` takes the least. Of
-- two ends with different numbers of steps the longer run passed through the state of the shorter
-- one (`passes`), so that was no end.
use Rattle.nc_algebra.proofs.Elements.{generator_dec}
use Rattle.nc_algebra.proofs.Monomials.{monomial_laws}
use Rattle.nc_algebra.proofs.Orders.{Decided, nat_order}
use Rattle.nc_algebra.specs.Elements.{IsGenerator, IsLess, IsZeroPolynomial, Setting, generator_weight}
use Rattle.nc_algebra.specs.Monomials.{Monomial, degree_of, times, unit_monomial}
use Rattle.nc_algebra.specs.Polynomials.{Polynomial, leading}
use Rattle.nc_algebra.specs.Primes.{IsField}
use Rattle.nc_algebra.specs.Problems.{Bound, IsInBound, IsWithin, Problem}
use Rattle.nc_algebra.specs.Words.{Word}
use Rattle.nc_theory.proofs.Completeness.{invariant}
use Rattle.nc_theory.proofs.Decisions.{best_exists, covered_dec, less_dec, pair_dec, regular_dec, word_dec}
use Rattle.nc_theory.proofs.Determinism.{next_unique, run_unique}
use Rattle.nc_theory.proofs.Existence.{listed_at, nobody, reduce_exists}
use Rattle.nc_theory.proofs.PairAmbiguities.{FoundAmbiguity, in_pair, pair}
use Rattle.nc_theory.proofs.Traces.{only_one}
use Rattle.nc_theory.specs.Ambiguities.{Ambiguity}
use Rattle.nc_theory.specs.Divisors.{Divisor, IsBestMultiple, Multiple, RegularDivisor}
use Rattle.nc_theory.specs.Reductions.{Reduction}
use Rattle.nc_theory.specs.Runs.{End, Handles, IsAfter, IsCandidate, IsEnd, IsNext, IsWaiting, Outcome, SequentialRun, Starts, state_after, opening}
use Rattle.nc_theory.specs.States.{Entry, Start, State, Step}
use Rattle.nc_theory.specs.Syzygies.{Covered}
use Rattle.std.proofs.lemmas.List.Elements.{Contains-append_cases, Contains-append_left, Contains-append_right}
use Rattle.std.proofs.lemmas.List.{get_or_default}
use Rattle.std.proofs.Common.{Contains, List, None, Option, Some, [], ap, arith, get_or, inl, inr, le_of_lt, le_refl, length, refl, subst, subst₂, suc, sym, zero, ℕ, ◌+◌, ◌++◌, ◌<◌, ◌∙◌, ◌∷◌, ◌≡◌, ◌≤◌, ◌⊎◌}

unit_dec : (τ : Monomial) → Decided ((i : ℕ) × (τ ≡ unit_monomial i))
unit_dec τ = go (word_dec τ.left []) (word_dec τ.right [])
  where
    go : Decided (τ.left ≡ []) → Decided (τ.right ≡ []) → Decided ((i : ℕ) × (τ ≡ unit_monomial i))
    go (inl a) (inl b) =
        inl (τ.generator, λ i. record { left = a i; generator = τ.generator; right = b i })
    go (inr n) o = inr (λ t. n (ap (λ ρ. ρ.left) t.1))
    go (inl a) (inr n) = inr (λ t. n (ap (λ ρ. ρ.right) t.1))

module _ (s : Setting) (field : IsField s.prime) (state : State) (nonzero : (e : Entry)
    → Contains state.entries e → ¬ IsZeroPolynomial s e.polynomial) (τ : Monomial) where
  from_start : ¬ Covered s state τ → {f : Polynomial} {start : Start}
      → Starts s state.entries τ f start → (o : Outcome) × Handles s state τ o
  from_start n {f = f} {start = start} starts =
      go (reduce_exists s field state.entries nonzero (λ σ. IsLess s σ τ) (λ σ. less_dec s σ τ) f)
    where
      go : (kept : Polynomial) × (steps : List Step)
          × Reduction s state.entries (λ σ. IsLess s σ τ) f kept steps → (o : Outcome)
          × Handles s state τ o
      go ([], steps, r) =
          (Outcome.a_syzygy (record { start = start; steps = steps }), Handles.is_syzygy n starts r)
      go (t ∷ kept, steps, r) = (
        Outcome.an_entry (t ∷ kept) (record { start = start; steps = steps }),
        Handles.is_entry n starts r,
      )

  -- each signature that is a unit or has a multiple has an outcome
  pub handles_exists : ((i : ℕ) × (τ ≡ unit_monomial i))
      ⊎ ((w : Word) × Multiple s state.entries τ w) → (o : Outcome) × Handles s state τ o
  handles_exists source =
      go (covered_dec s state τ) (unit_dec τ) (best_exists s field state nonzero τ)
    where
      go : Decided (Covered s state τ) → Decided ((i : ℕ) × (τ ≡ unit_monomial i))
          → ((w : Word) × (d : Divisor s state.entries w) × IsBestMultiple s state.entries τ w d)
          ⊎ ((w : Word) → ¬ Multiple s state.entries τ w) → (o : Outcome) × Handles s state τ o
      go (inl k) u b = (Outcome.covered, Handles.is_covered k)
      go (inr n) (inl (i, e)) b = from_start n (Starts.at_generator i e)
      go (inr n) (inr not_unit) (inl (w, d, best)) = place (regular_dec s field state nonzero τ w)
        where
          place : Decided (RegularDivisor s state.entries τ w) → (o : Outcome) × Handles s state τ o
          place (inl r) = from_start n (Starts.at_multiple (λ i e. not_unit (i, e)) w d best r)
          place (inr m) = (
            Outcome.settled (d.listed.0 + 1),
            Handles.is_settled n (λ i e. not_unit (i, e)) w d best m,
          )
      go (inr n) (inr not_unit) (inr none) = absurd (impossible source)
        where
          impossible : ((i : ℕ) × (τ ≡ unit_monomial i))
              ⊎ ((w : Word) × Multiple s state.entries τ w) → ⊥
          impossible (inl u) = not_unit u
          impossible (inr (w, m)) = none w m

-- ---- all candidates of a state, listed

-- a list for each number below n, joined
join_below : {X : Type 0} (N : ℕ) → ((k : ℕ) → k < N → List X) → (n : ℕ) → n ≤ N → List X
join_below N F zero l = []
join_below N F (suc n) l = F n l ++ join_below N F n (le_of_lt l)

in_join : {X : Type 0} (N : ℕ) (F : (k : ℕ) → k < N → List X) (Good : X → Type 0) (k : ℕ)
    → ((l : k < N) → (x : X) × Contains (F k l) x × Good x) → (n : ℕ) (l : n ≤ N) → k < n → (x : X)
    × Contains (join_below N F n l) x × Good x
unfolding join_below
in_join N F Good k has zero l h = absurd (omega arith)
in_join {X} N F Good k has (suc n) l h = go (nat_order k n) (in_join N F Good k has n (le_of_lt l))
  where
    go : (k < n) ⊎ ((k ≡ n) ⊎ (n < k))
        → (k < n → (x : X) × Contains (join_below N F n (le_of_lt l)) x × Good x) → (x : X)
        × Contains (F n l ++ join_below N F n (le_of_lt l)) x × Good x
    go (inl g) f =
        let t : (x : X) × Contains (join_below N F n (le_of_lt l)) x × Good x =
        f g in (t.0, Contains-append_right (F n l) (join_below N F n (le_of_lt l)) t.0 t.1, t.2)
    go (inr (inl e)) f =
        let t : (x : X) × Contains (F n l) x × Good x =
        subst (λ m. (l : m < N) → (x : X) × Contains (F m l) x × Good x) e has l in
        (t.0, Contains-append_left (F n l) (join_below N F n (le_of_lt l)) t.0 t.1, t.2)
    go (inr (inr g)) f = absurd (omega arith)

module _ (s : Setting) (entries : List Entry) where
  entry_at : ℕ → Entry
  entry_at k = get_or entries k nobody

  entry_listed : (k : ℕ) → k < length entries → Contains entries (entry_at k)
  unfolding entry_at
  entry_listed k l = listed_at entries k l

  all_pairs : List (FoundAmbiguity s entries)
  all_pairs =
      join_below (length entries) (λ k l. join_below (length entries)
      (λ m h. pair s entries (entry_at k) (entry_listed k l) (entry_at m) (entry_listed m h))
      (length entries) (le_refl (length entries))) (length entries) (le_refl (length entries))

  -- an entry is the one that stands at its number
  at_its_number : (e : Entry) (c : Contains entries e) → entry_at c.0 ≡ e
  unfolding entry_at
  at_its_number e c = get_or_default entries c.0 nobody e c.1 ∙ c.2

  in_all_pairs : (ρ : Monomial) (w : Word) → Ambiguity s entries ρ w
      → (x : FoundAmbiguity s entries) × Contains all_pairs x × (x.0 ≡ ρ)
  unfolding all_pairs
  in_all_pairs ρ w amb =
      in_join (length entries) (λ k l. join_below (length entries)
      (λ m h. pair s entries (entry_at k) (entry_listed k l) (entry_at m) (entry_listed m h))
      (length entries) (le_refl (length entries))) (λ x. x.0 ≡ ρ) amb.high.listed.0
      (λ l. in_join (length entries)
      (λ m h. pair s entries (entry_at amb.high.listed.0) (entry_listed amb.high.listed.0 l)
      (entry_at m) (entry_listed m h)) (λ x. x.0 ≡ ρ) amb.low.listed.0 (λ h. here l h)
      (length entries) (le_refl (length entries)) amb.low.listed.1) (length entries)
      (le_refl (length entries)) amb.high.listed.1
    where
      i : entry_at amb.high.listed.0 ≡ amb.high.entry
      i = at_its_number amb.high.entry amb.high.listed

      j : entry_at amb.low.listed.0 ≡ amb.low.entry
      j = at_its_number amb.low.entry amb.low.listed

      here : (l : amb.high.listed.0 < length entries) (h : amb.low.listed.0 < length entries)
          → (x : FoundAmbiguity s entries)
          × Contains (pair s entries (entry_at amb.high.listed.0) (entry_listed amb.high.listed.0 l)
          (entry_at amb.low.listed.0) (entry_listed amb.low.listed.0 h)) x × (x.0 ≡ ρ)
      here l h =
          let t : (x : FoundAmbiguity s entries)
          × Contains (pair s entries (entry_at amb.high.listed.0)
          (entry_listed amb.high.listed.0 l) (entry_at amb.low.listed.0)
          (entry_listed amb.low.listed.0 h)) x
          × (x.0 ≡ times amb.high.left (entry_at amb.high.listed.0).signature amb.high.right) =
          in_pair s entries (entry_at amb.high.listed.0) (entry_listed amb.high.listed.0 l)
          (entry_at amb.low.listed.0) (entry_listed amb.low.listed.0 h) amb.high.left
          amb.high.right amb.low.left amb.low.right
          ((ap (λ e. amb.high.left ++ (leading s.prime e.polynomial ++ amb.high.right)) i
          ∙ amb.high.spells) ∙ sym (ap (λ e. amb.low.left
          ++ (leading s.prime e.polynomial ++ amb.low.right)) j ∙ amb.low.spells))
          amb.spans_front amb.spans_back
          (subst (λ e. length amb.high.left < length amb.low.left
          + length (leading s.prime e.polynomial)) (sym j) amb.high_begins)
          (subst (λ e. length amb.low.left < length amb.high.left
          + length (leading s.prime e.polynomial)) (sym i) amb.low_begins)
          (subst₂ (λ e f. IsLess s (times amb.low.left e.signature amb.low.right)
          (times amb.high.left f.signature amb.high.right)) (sym j) (sym i) amb.below) in (
            t.0,
            t.1,
            t.2 ∙ (ap (λ e. times amb.high.left e.signature amb.high.right) i
                ∙ amb.signed),
          )

  units : ℕ → List (FoundAmbiguity s entries)
  units zero = []
  units (suc n) = (unit_monomial (n + 1), inl (n + 1, refl)) ∷ units n

  in_units : (n i : ℕ) → 1 ≤ i → i ≤ n → (x : FoundAmbiguity s entries) × Contains (units n) x
      × (x.0 ≡ unit_monomial i)
  unfolding units
  in_units zero i l h = absurd (omega arith)
  in_units (suc n) i l h = go (nat_order i (n + 1)) (in_units n i l)
    where
      go : (i < n + 1) ⊎ ((i ≡ n + 1) ⊎ (n + 1 < i))
          → (i ≤ n → (x : FoundAmbiguity s entries) × Contains (units n) x
          × (x.0 ≡ unit_monomial i)) → (x : FoundAmbiguity s entries)
          × Contains ((unit_monomial (n + 1), inl (n + 1, refl)) ∷ units n) x
          × (x.0 ≡ unit_monomial i)
      go (inl g) f =
          let t : (x : FoundAmbiguity s entries) × Contains (units n) x × (x.0 ≡ unit_monomial i) =
          f (omega arith) in (
            t.0,
            Contains-append_right
                ((unit_monomial (n + 1), inl (n + 1, refl)) ∷ []) (units n) t.0 t.1,
            t.2,
          )
      go (inr (inl e)) f = (
        (unit_monomial (n + 1), inl (n + 1, refl)),
        (0, omega arith, refl),
        ap unit_monomial (sym e),
      )
      go (inr (inr g)) f = absurd (omega arith)

  -- of a list, the least with a property
  pick : (Good : Monomial → Type 0) → ((σ : Monomial) → Decided (Good σ))
      → (xs : List (FoundAmbiguity s entries))
      → ((x : FoundAmbiguity s entries) × Good x.0
      × ((y : FoundAmbiguity s entries) → Contains xs y → Good y.0 → (y.0 ≡ x.0)
      ⊎ IsLess s x.0 y.0)) ⊎ ((y : FoundAmbiguity s entries) → Contains xs y → ¬ Good y.0)
  pick Good good [] = inr (λ y c g. omega (arith, c.1))
  pick Good good (z ∷ xs) = go (good z.0) (pick Good good xs)
    where
      Best : FoundAmbiguity s entries → List (FoundAmbiguity s entries) → Type 0
      Best x ys =
          (y : FoundAmbiguity s entries) → Contains ys y → Good y.0 → (y.0 ≡ x.0) ⊎ IsLess s x.0 y.0

      cons : (x : FoundAmbiguity s entries) → (Good z.0 → (z.0 ≡ x.0) ⊎ IsLess s x.0 z.0)
          → Best x xs → Best x (z ∷ xs)
      cons x first rest y c g = at (Contains-append_cases (z ∷ []) xs y c)
        where
          at : Contains (z ∷ []) y ⊎ Contains xs y → (y.0 ≡ x.0) ⊎ IsLess s x.0 y.0
          at (inl k) =
              let e : z ≡ y =
              only_one z y k in subst (λ q. (q ≡ x.0) ⊎ IsLess s x.0 q) (ap (λ q. q.0) e)
              (first (subst Good (sym (ap (λ q. q.0) e)) g))
          at (inr k) = rest y k g

      go : Decided (Good z.0) → ((x : FoundAmbiguity s entries) × Good x.0 × Best x xs)
          ⊎ ((y : FoundAmbiguity s entries) → Contains xs y → ¬ Good y.0)
          → ((x : FoundAmbiguity s entries) × Good x.0 × Best x (z ∷ xs))
          ⊎ ((y : FoundAmbiguity s entries) → Contains (z ∷ xs) y → ¬ Good y.0)
      go (inr n) (inl (x, g, m)) = inl (x, g, cons x (λ h. absurd (n h)) m)
      go (inr n) (inr m) = inr (λ y c g. none y (Contains-append_cases (z ∷ []) xs y c) g)
        where
          none : (y : FoundAmbiguity s entries) → Contains (z ∷ []) y ⊎ Contains xs y → ¬ Good y.0
          none y (inl k) g = n (subst Good (sym (ap (λ q. q.0) (only_one z y k))) g)
          none y (inr k) g = m y k g
      go (inl p) (inr m) = inl (z, p, cons z (λ h. inl refl) (λ y c g. absurd (m y c g)))
      go (inl p) (inl (x, g, m)) = compare ((monomial_laws (generator_weight s)).total z.0 x.0)
        where
          compare : IsLess s z.0 x.0 ⊎ ((z.0 ≡ x.0) ⊎ IsLess s x.0 z.0)
              → ((x : FoundAmbiguity s entries) × Good x.0 × Best x (z ∷ xs))
              ⊎ ((y : FoundAmbiguity s entries) → Contains (z ∷ xs) y → ¬ Good y.0)
          compare (inl l) = inl (z, p, cons z (λ h. inl refl) (λ y c h. over y (m y c h)))
            where
              over : (y : FoundAmbiguity s entries) → (y.0 ≡ x.0) ⊎ IsLess s x.0 y.0 → (y.0 ≡ z.0)
                  ⊎ IsLess s z.0 y.0
              over y (inl e) = inr (subst (IsLess s z.0) (sym e) l)
              over y (inr k) = inr ((monomial_laws (generator_weight s)).trans z.0 x.0 y.0 l k)
          compare (inr (inl e)) = inl (x, g, cons x (λ h. inl e) m)
          compare (inr (inr l)) = inl (x, g, cons x (λ h. inr l) m)

module _ (P : Problem) (state : State) (last : Option Monomial) where
  pub bound_dec : (b : Bound) (σ : Monomial) → Decided (IsInBound P.setting b σ)
  bound_dec (Bound.to_degree d) σ = go (nat_order (degree_of (generator_weight P.setting) σ) d)
    where
      go : (degree_of (generator_weight P.setting) σ < d)
          ⊎ ((degree_of (generator_weight P.setting) σ ≡ d)
          ⊎ (d < degree_of (generator_weight P.setting) σ))
          → Decided (degree_of (generator_weight P.setting) σ ≤ d)
      go (inl l) = inl (le_of_lt l)
      go (inr (inl e)) = inl (omega (arith, e))
      go (inr (inr l)) = inr (λ k. omega (arith, l, k))
  bound_dec (Bound.under β) σ = less_dec P.setting σ β

  left_dec : (l : Option Monomial) (σ : Monomial) → Decided (IsAfter P l σ)
  left_dec None σ = inl tt
  left_dec (Some τ) σ = less_dec P.setting τ σ

  abbrev Good : Monomial → Type 0
  Good σ = IsWithin P σ × IsAfter P last σ

  good_dec : (σ : Monomial) → Decided (Good σ)
  good_dec σ = go (generator_dec P.setting σ.generator) (bound_dec P.bound σ) (left_dec last σ)
    where
      go : Decided (IsGenerator P.setting σ.generator) → Decided (IsInBound P.setting P.bound σ)
          → Decided (IsAfter P last σ) → Decided (Good σ)
      go (inl a) (inl b) (inl c) = inl ((a, b), c)
      go (inr n) b c = inr (λ t. n t.0.0)
      go (inl a) (inr n) c = inr (λ t. n t.0.1)
      go (inl a) (inl b) (inr n) = inr (λ t. n t.1)

  all : List (FoundAmbiguity P.setting state.entries)
  all = all_pairs P.setting state.entries ++ units P.setting state.entries
      (length P.setting.generators)

  in_all : (σ : Monomial) → IsCandidate P state σ → (x : FoundAmbiguity P.setting state.entries)
      × Contains all x × (x.0 ≡ σ)
  unfolding all
  in_all σ (within, inl (i, e)) =
      let g : σ.generator ≡ i =
      ap (λ ρ. ρ.generator) e in let t : (x : FoundAmbiguity P.setting state.entries)
      × Contains (units P.setting state.entries (length P.setting.generators)) x
      × (x.0 ≡ unit_monomial i) =
      in_units P.setting state.entries (length P.setting.generators) i
      (omega (arith, within.0.0, g)) (omega (arith, within.0.1, g)) in (
        t.0,
        Contains-append_right (all_pairs P.setting state.entries)
            (units P.setting state.entries (length P.setting.generators)) t.0 t.1,
        t.2 ∙ sym e,
      )
  in_all σ (within, inr (w, amb)) =
      let t : (x : FoundAmbiguity P.setting state.entries)
      × Contains (all_pairs P.setting state.entries) x × (x.0 ≡ σ) =
      in_all_pairs P.setting state.entries σ w amb in (
        t.0,
        Contains-append_left (all_pairs P.setting state.entries)
            (units P.setting state.entries (length P.setting.generators)) t.0 t.1,
        t.2,
      )

  -- of the waiting signatures with a property there is a least, or none has it
  pub first_with : (Q : Monomial → Type 0) → ((σ : Monomial) → Decided (Q σ))
      → ((τ : Monomial) × IsWaiting P state last τ × Q τ
      × ((σ : Monomial) → IsWaiting P state last σ → Q σ → (σ ≡ τ) ⊎ IsLess P.setting τ σ))
      ⊎ ((τ : Monomial) → IsWaiting P state last τ → ¬ Q τ)
  first_with Q dec =
      go (pick P.setting state.entries (λ σ. Good σ × Q σ) (λ σ. pair_dec (good_dec σ) (dec σ)) all)
    where
      go : ((x : FoundAmbiguity P.setting state.entries) × (Good x.0 × Q x.0)
          × ((y : FoundAmbiguity P.setting state.entries) → Contains all y → Good y.0 × Q y.0
          → (y.0 ≡ x.0) ⊎ IsLess P.setting x.0 y.0))
          ⊎ ((y : FoundAmbiguity P.setting state.entries) → Contains all y → ¬ (Good y.0 × Q y.0))
          → ((τ : Monomial) × IsWaiting P state last τ × Q τ
          × ((σ : Monomial) → IsWaiting P state last σ → Q σ → (σ ≡ τ) ⊎ IsLess P.setting τ σ))
          ⊎ ((τ : Monomial) → IsWaiting P state last τ → ¬ Q τ)
      go (inl (x, g, best)) =
          inl (x.0, ((g.0.0, x.1), g.0.1), g.1, λ σ c q. at σ c q (in_all σ c.0))
        where
          at : (σ : Monomial) → IsWaiting P state last σ → Q σ
              → (y : FoundAmbiguity P.setting state.entries) × Contains all y × (y.0 ≡ σ)
              → (σ ≡ x.0) ⊎ IsLess P.setting x.0 σ
          at σ c q (y, k, e) =
              subst (λ q. (q ≡ x.0) ⊎ IsLess P.setting x.0 q) e
              (best y k (subst (λ ρ. Good ρ × Q ρ) (sym e) ((c.0.0, c.1), q)))
      go (inr none) = inr (λ τ c q. at τ c q (in_all τ c.0))
        where
          at : (τ : Monomial) → IsWaiting P state last τ → Q τ
              → (y : FoundAmbiguity P.setting state.entries) × Contains all y × (y.0 ≡ τ) → ⊥
          at τ c q (y, k, e) = none y k (subst (λ ρ. Good ρ × Q ρ) (sym e) ((c.0.0, c.1), q))

  -- a least candidate is left, or none is
  pub next_exists : ((τ : Monomial) × IsNext P state last τ)
      ⊎ ((τ : Monomial) → IsCandidate P state τ → ¬ IsAfter P last τ)
  next_exists = go (first_with (λ σ. Unit {0}) (λ σ. inl tt))
    where
      go : ((τ : Monomial) × IsWaiting P state last τ × Unit {0}
          × ((σ : Monomial) → IsWaiting P state last σ → Unit {0} → (σ ≡ τ)
          ⊎ IsLess P.setting τ σ)) ⊎ ((τ : Monomial) → IsWaiting P state last τ → ¬ Unit {0})
          → ((τ : Monomial) × IsNext P state last τ)
          ⊎ ((τ : Monomial) → IsCandidate P state τ → ¬ IsAfter P last τ)
      go (inl (τ, w, q, least)) =
          inl (τ, record { candidate = w.0; left = w.1; least = λ σ c l. least σ (c, l) tt })
      go (inr none) = inr (λ τ c l. none τ (c, l) tt)

module _ (P : Problem) (field : IsField P.setting.prime) where
  Run : ℕ → Type 0
  Run n = (state : State) × (last : Option Monomial) × SequentialRun P n state last

  pub source : (state : State) (τ : Monomial) → IsCandidate P state τ
      → ((i : ℕ) × (τ ≡ unit_monomial i)) ⊎ ((w : Word) × Multiple P.setting state.entries τ w)
  source state τ (within, inl u) = inl u
  source state τ (within, inr (w, amb)) =
      inr (w, record { divisor = amb.high; signed = amb.signed })

  Ended : Type 0
  Ended = (n : ℕ) × (state : State) × (end : End) × IsEnd P n state end

  run_or_end : (n : ℕ) → n ≤ P.steps → Run n ⊎ Ended
  unfolding Run Ended
  run_or_end zero l = inl (opening, None, SequentialRun.opened)
  run_or_end (suc n) l = go (run_or_end n (le_of_lt l))
    where
      go : Run n ⊎ Ended → Run (suc n) ⊎ Ended
      go (inr e) = inr e
      go (inl (state, last, run)) = next (next_exists P state last)
        where
          next : ((τ : Monomial) × IsNext P state last τ)
              ⊎ ((τ : Monomial) → IsCandidate P state τ → ¬ IsAfter P last τ) → Run (suc n) ⊎ Ended
          next (inr none) = inr (n, state, End.complete, IsEnd.is_complete (le_of_lt l) run none)
          next (inl (τ, k)) =
              let t : (o : Outcome) × Handles P.setting state τ o =
              handles_exists P.setting field state (invariant P field run).sound.nonzero τ
              (source state τ k.candidate) in
              inl (state_after state τ t.0, Some τ, SequentialRun.handled run τ k t.0 t.1)

  -- each problem's run has an end
  pub end_exists : (n : ℕ) × (state : State) × (end : End) × IsEnd P n state end
  unfolding Run Ended
  end_exists = go (run_or_end P.steps (le_refl P.steps))
    where
      go : Run P.steps ⊎ Ended → (n : ℕ) × (state : State) × (end : End) × IsEnd P n state end
      go (inr e) = e
      go (inl (state, last, run)) = next (next_exists P state last)
        where
          next : ((τ : Monomial) × IsNext P state last τ)
              ⊎ ((τ : Monomial) → IsCandidate P state τ → ¬ IsAfter P last τ) → (n : ℕ)
              × (state : State) × (end : End) × IsEnd P n state end
          next (inr none) =
              (P.steps, state, End.complete, IsEnd.is_complete (le_refl P.steps) run none)
          next (inl (τ, k)) = (P.steps, state, End.budget τ, IsEnd.is_budget refl run τ k)

  -- a longer run went on from the shorter one's state
  passes : {m : ℕ} {later : State} {after' : Option Monomial} → SequentialRun P m later after'
      → (n : ℕ) → n < m → (state : State) × (last : Option Monomial) × SequentialRun P n state last
      × ((τ : Monomial) × IsNext P state last τ)
  passes SequentialRun.opened n l = absurd (omega arith)
  passes (SequentialRun.handled {n = m} {state = state} {last = last} run τ next o h) n l =
      go (nat_order n m) (passes run n)
    where
      go : (n < m) ⊎ ((n ≡ m) ⊎ (m < n))
          → (n < m → (state : State) × (last : Option Monomial) × SequentialRun P n state last
          × ((τ : Monomial) × IsNext P state last τ)) → (state : State) × (last : Option Monomial)
          × SequentialRun P n state last × ((τ : Monomial) × IsNext P state last τ)
      go (inl k) f = f k
      go (inr (inl e)) f =
          (state, last, subst (λ j. SequentialRun P j state last) (sym e) run, (τ, next))
      go (inr (inr k)) f = absurd (omega arith)

  stops : {n : ℕ} {state : State} {last : Option Monomial} → SequentialRun P n state last
      → ((τ : Monomial) → IsCandidate P state τ → ¬ IsAfter P last τ)
      → {m : ℕ} {later : State} {last' : Option Monomial} → SequentialRun P m later last'
      → ¬ (n < m)
  stops {n} {state} {last} run none run' l = go (passes run' n l)
    where
      go : (state' : State) × (last' : Option Monomial) × SequentialRun P n state' last'
          × ((τ : Monomial) × IsNext P state' last' τ) → ⊥
      go (a, b, r, (τ, k)) =
          let e : (a ≡ state) × (b ≡ last) =
          run_unique P field r run in let k' : IsNext P state last τ =
          subst₂ (λ x y. IsNext P x y τ) e.0 e.1 k in none τ k'.candidate k'.left

  -- and only one
  pub end_unique : {n m : ℕ} {state later : State} {end end' : End} → IsEnd P n state end
      → IsEnd P m later end' → (n ≡ m) × (state ≡ later) × (end ≡ end')
  end_unique {n} {m} {state} {later} (IsEnd.is_complete {last = last} l run none)
      (IsEnd.is_complete {last = last'} l' run' none') = go (nat_order n m)
    where
      go : (n < m) ⊎ ((n ≡ m) ⊎ (m < n)) → (n ≡ m) × (state ≡ later) × (End.complete ≡ End.complete)
      go (inl k) = absurd (stops run none run' k)
      go (inr (inl e)) =
          (e, (run_unique P field (subst (λ j. SequentialRun P j state last) e run) run').0, refl)
      go (inr (inr k)) = absurd (stops run' none' run k)
  end_unique {n} {m} {state} {later} (IsEnd.is_complete {last = last} l run none)
      (IsEnd.is_budget {last = last'} i run' τ next) = absurd (go (nat_order n m))
    where
      go : (n < m) ⊎ ((n ≡ m) ⊎ (m < n)) → ⊥
      go (inl k) = stops run none run' k
      go (inr (inl e)) =
          let t : (state ≡ later) × (last ≡ last') =
          run_unique P field (subst (λ j. SequentialRun P j state last) e run) run' in
          let k : IsNext P state last τ =
          subst₂ (λ x y. IsNext P x y τ) (sym t.0) (sym t.1) next in none τ k.candidate k.left
      go (inr (inr k)) = omega (arith, i)
  end_unique {n} {m} {state} {later} (IsEnd.is_budget {last = last} i run τ next)
      (IsEnd.is_complete {last = last'} l run' none) = absurd (go (nat_order n m))
    where
      go : (n < m) ⊎ ((n ≡ m) ⊎ (m < n)) → ⊥
      go (inr (inr k)) = stops run' none run k
      go (inr (inl e)) =
          let t : (state ≡ later) × (last ≡ last') =
          run_unique P field (subst (λ j. SequentialRun P j state last) e run) run' in
          let k : IsNext P later last' τ =
          subst₂ (λ x y. IsNext P x y τ) t.0 t.1 next in none τ k.candidate k.left
      go (inl k) = omega (arith, i)
  end_unique {n} {m} {state} {later} (IsEnd.is_budget {last = last} i run τ next)
      (IsEnd.is_budget {last = last'} i' run' τ' next') =
      let e : n ≡ m =
      omega (arith, i, i') in go e (run_unique P field
      (subst (λ j. SequentialRun P j state last) e run) run')
    where
      go : n ≡ m → (state ≡ later) × (last ≡ last') → (n ≡ m) × (state ≡ later)
          × (End.budget τ ≡ End.budget τ')
      go e (a, b) = (
        e,
        a,
        ap End.budget (next_unique P later last' τ τ'
            (subst₂ (λ x y. IsNext P x y τ) a b next) next'),
      )
