-- Entries with a signature of at least τ do not matter at τ, and each item is rebuilt from the
-- entries before it.
-- A multiple has at least the signature of its entry (`from_not_below`). So the places that count
-- at τ are the same in the list and in its front, under the same numbers (`in_all`, `in_first`),
-- and so are reductions (`reduction_front`). `Rebuilt` is the invariant of the run; it says also
-- that entries and syzygies ascend. A list is split into lesser entries and others in one way
-- (`split_once`), so what is rebuilt is unique.
use Rattle.nc_algebra.proofs.Monomials.{monomial_laws}
use Rattle.nc_algebra.specs.Elements.{IsLess, IsZeroPolynomial, Setting, generator_weight}
use Rattle.nc_algebra.specs.Monomials.{Monomial, times}
use Rattle.nc_algebra.specs.Polynomials.{Polynomial, coefficient}
use Rattle.nc_algebra.specs.Primes.{IsField}
use Rattle.nc_algebra.specs.Problems.{Problem}
use Rattle.nc_algebra.specs.Words.{Word}
use Rattle.nc_theory.proofs.Completeness.{Invariant, IsReached, invariant, new_entry, reached_less}
use Rattle.nc_theory.proofs.Determinism.{reduction_unique, starts_unique}
use Rattle.nc_theory.proofs.Places.{at_most_multiple}
use Rattle.nc_theory.proofs.Pushed.{each_pushed}
use Rattle.nc_theory.proofs.Relisted.{relisted}
use Rattle.nc_theory.proofs.Fronts.{front_or_later, in_front}
use Rattle.nc_theory.proofs.Traces.{only_one}
use Rattle.nc_theory.specs.Divisors.{Divisor, IsChosenDivisor, RegularDivisor, signature_at}
use Rattle.nc_theory.specs.Rebuilding.{IsAtLeast, Rebuilds}
use Rattle.nc_theory.specs.Reductions.{Reduction, ReductionAt}
use Rattle.nc_theory.specs.Runs.{Handles, IsNext, Outcome, SequentialRun, Starts, state_after}
use Rattle.nc_theory.specs.States.{Entry, Start, State, Step, Syzygy, Trace}
use Rattle.std.proofs.Common.{Contains, List, Option, Some, [], ap, ap₂, append-nil, append_assoc, arith, get_or, inl, inr, length, length-append, refl, subst, suc, sym, ℕ, ◌%◌, ◌+◌, ◌++◌, ◌<◌, ◌↔◌, ◌∙◌, ◌∷◌, ◌≡◌, ◌≤◌, ◌⊎◌}

-- a multiple of an entry with a signature of at least τ has one too
pub from_not_below : (s : Setting) (τ : Monomial) (e : Entry) (u v : Word) → IsAtLeast s τ e
    → IsLess s (times u e.signature v) τ → ⊥
from_not_below s τ e u v f l = go (at_most_multiple s u v e.signature) f
  where
    under : (e.signature ≡ times u e.signature v) ⊎ IsLess s e.signature (times u e.signature v)
        → IsLess s e.signature τ
    under (inl i) = subst (λ κ. IsLess s κ τ) (sym i) l
    under (inr m) =
        (monomial_laws (generator_weight s)).trans e.signature (times u e.signature v) τ m l

    go : (e.signature ≡ times u e.signature v) ⊎ IsLess s e.signature (times u e.signature v)
        → (e.signature ≡ τ) ⊎ IsLess s τ e.signature → ⊥
    go o (inl i) =
        (monomial_laws (generator_weight s)).irrefl τ (subst (λ κ. IsLess s κ τ) i (under o))
    go o (inr m) =
        (monomial_laws (generator_weight s)).irrefl τ
        ((monomial_laws (generator_weight s)).trans τ e.signature τ m (under o))

module _ (s : Setting) (first rest : List Entry) (τ : Monomial) (others : (e : Entry)
    → Contains rest e → IsAtLeast s τ e) where
  -- a place of one of the first entries is one among all
  abbrev in_all : (w : Word) → Divisor s first w → Divisor s (first ++ rest) w
  in_all w d =
      relisted d (in_front first rest d.entry d.listed)

  first_at : (w : Word) (d : Divisor s (first ++ rest) w)
      → IsLess s (signature_at s (first ++ rest) w d) τ → (d.listed.0 < length first)
      × (get_or first d.listed.0 d.entry ≡ d.entry)
  first_at w d below = go (front_or_later first rest d.entry d.listed)
    where
      go : ((l : Contains first d.entry) × (l.0 ≡ d.listed.0))
          ⊎ (Contains rest d.entry × (length first ≤ d.listed.0)) → (d.listed.0 < length first)
          × (get_or first d.listed.0 d.entry ≡ d.entry)
      go (inl (l, e)) =
          (subst (λ n. n < length first) e l.1, subst (λ n. get_or first n d.entry ≡ d.entry) e l.2)
      go (inr (c, b)) = absurd (from_not_below s τ d.entry d.left d.right (others d.entry c) below)

  -- and one among all with a signature below τ is one of a first entry, under the same number
  abbrev in_first : (w : Word) (d : Divisor s (first ++ rest) w)
      → IsLess s (signature_at s (first ++ rest) w d) τ → Divisor s first w
  in_first w d below =
      relisted d (d.listed.0, (first_at w d below).0, (first_at w d below).1)

  pub regular_front : (w : Word) → RegularDivisor s (first ++ rest) τ w ↔ RegularDivisor s first τ w
  regular_front w = (
    λ r. record { divisor = in_first w r.divisor r.below; below = r.below },
    λ r. record { divisor = in_all w r.divisor; below = r.below },
  )

  chosen_in_all : (w : Word) (d : Divisor s first w)
      → IsChosenDivisor s first (λ σ. IsLess s σ τ) w d
      → IsChosenDivisor s (first ++ rest) (λ σ. IsLess s σ τ) w (in_all w d)
  chosen_in_all w d chosen =
      record { allowed = chosen.allowed; least = λ e a. chosen.least (in_first w e a) a }

  chosen_in_first : (w : Word) (d : Divisor s (first ++ rest) w)
      (chosen : IsChosenDivisor s (first ++ rest) (λ σ. IsLess s σ τ) w d)
      → IsChosenDivisor s first (λ σ. IsLess s σ τ) w (in_first w d chosen.allowed)
  chosen_in_first w d chosen =
      record { allowed = chosen.allowed; least = λ e a. chosen.least (in_all w e) a }

  reduction_forth : {f kept : Polynomial} {steps : List Step} → ReductionAt s first τ f kept steps
      → ReductionAt s (first ++ rest) τ f kept steps
  reduction_forth (Reduction.finished n) = Reduction.finished n
  reduction_forth (Reduction.subtract w l d chosen c small q r) =
      Reduction.subtract w l (in_all w d) (chosen_in_all w d chosen) c small q (reduction_forth r)
  reduction_forth (Reduction.keep w l none c e r) =
      Reduction.keep w l (λ d a. none (in_first w d a) a) c e (reduction_forth r)

  reduction_back : {f kept : Polynomial} {steps : List Step}
      → ReductionAt s (first ++ rest) τ f kept steps → ReductionAt s first τ f kept steps
  reduction_back (Reduction.finished n) = Reduction.finished n
  reduction_back (Reduction.subtract w l d chosen c small q r) =
      Reduction.subtract w l (in_first w d chosen.allowed) (chosen_in_first w d chosen) c small q
      (reduction_back r)
  reduction_back (Reduction.keep w l none c e r) =
      Reduction.keep w l (λ d a. none (in_all w d) a) c e (reduction_back r)

  pub reduction_front : (f kept : Polynomial) (steps : List Step)
      → ReductionAt s (first ++ rest) τ f kept steps ↔ ReductionAt s first τ f kept steps
  reduction_front f kept steps = (reduction_back, reduction_forth)

-- ---- what is rebuilt is one

module _ (s : Setting) (σ : Monomial) where
  lesser_or_not : (e : Entry) → IsLess s e.signature σ → IsAtLeast s σ e → ⊥
  lesser_or_not e l (inl i) =
      (monomial_laws (generator_weight s)).irrefl σ (subst (λ κ. IsLess s κ σ) i l)
  lesser_or_not e l (inr m) =
      (monomial_laws (generator_weight s)).irrefl σ
      ((monomial_laws (generator_weight s)).trans σ e.signature σ m l)

  behind : {X : Type 0} → List X → List X
  behind [] = []
  behind (x ∷ xs) = xs

  -- a list is split into lesser entries and others in one way
  split_once : (first rest first' rest' : List Entry) → first ++ rest ≡ first' ++ rest'
      → ((e : Entry) → Contains first e → IsLess s e.signature σ)
      → ((e : Entry) → Contains rest e → IsAtLeast s σ e)
      → ((e : Entry) → Contains first' e → IsLess s e.signature σ)
      → ((e : Entry) → Contains rest' e → IsAtLeast s σ e) → first ≡ first'
  unfolding behind
  split_once [] rest [] rest' e low high low' high' = refl
  split_once [] rest (x ∷ first') rest' e low high low' high' =
      absurd (lesser_or_not x (low' x (0, omega arith, refl))
      (high x (subst (λ l. Contains l x) (sym e) (0, omega arith, refl))))
  split_once (x ∷ first) rest [] rest' e low high low' high' =
      absurd (lesser_or_not x (low x (0, omega arith, refl))
      (high' x (subst (λ l. Contains l x) e (0, omega arith, refl))))
  split_once (x ∷ first) rest (y ∷ first') rest' e low high low' high' =
      ap₂ (λ z l. z ∷ l) (ap (λ l. get_or l 0 x) e)
      (split_once first rest first' rest' (ap behind e)
      (λ z c. low z (suc c.0, omega (arith, c.1), c.2)) high
      (λ z c. low' z (suc c.0, omega (arith, c.1), c.2)) high')

module _ (s : Setting) (field : IsField s.prime) (entries : List Entry) (alive : (e : Entry)
    → Contains entries e → ¬ IsZeroPolynomial s e.polynomial) (σ : Monomial) where
  pub rebuilds_once : (t t' : Trace) (f f' : Polynomial) → Rebuilds s entries σ t f
      → Rebuilds s entries σ t' f' → (t ≡ t') × (f ≡ f')
  rebuilds_once t t' f f' r r' =
      reduced (starts_unique s field r.first σ r.starts
      (subst (λ l. Starts s l σ r'.start t'.start) (sym same) r'.starts))
    where
      same : r.first ≡ r'.first
      same = split_once s σ r.first r.rest r'.first r'.rest (sym r.splits ∙ r'.splits) r.lesser
          r.others r'.lesser r'.others

      first_alive : (e : Entry) → Contains r.first e → ¬ IsZeroPolynomial s e.polynomial
      first_alive e c =
          alive e (subst (λ l. Contains l e) (sym r.splits) (in_front r.first r.rest e c))

      reduced : (r.start ≡ r'.start) × (t.start ≡ t'.start) → (t ≡ t') × (f ≡ f')
      reduced (a, b) =
          join (reduction_unique s field r.first first_alive (λ κ. IsLess s κ σ) r.reduces
          (subst (λ l. ReductionAt s l σ r'.start f' t'.steps) (sym same) r'.reduces)
          (record { at = λ w. ap (λ h. coefficient h w % s.prime) a }))
        where
          join : (f ≡ f') × (t.steps ≡ t'.steps) → (t ≡ t') × (f ≡ f')
          join (k, l) = (λ i. record { start = b i; steps = l i }, k)

-- ---- runs

-- one more entry behind does not matter
more : (s : Setting) (entries : List Entry) (σ : Monomial) (trace : Trace) (result : Polynomial)
    → Rebuilds s entries σ trace result → (new : Entry) → IsAtLeast s σ new
    → Rebuilds s (entries ++ (new ∷ [])) σ trace result
more s entries σ trace result r new f =
    record {
      first = r.first;
      rest = r.rest ++ (new ∷ []);
      splits = ap (λ l. l ++ (new ∷ [])) r.splits ∙ append_assoc r.first r.rest (new ∷ []);
      lesser = r.lesser;
      others = each_pushed (IsAtLeast s σ) r.rest new r.others f;
      start = r.start;
      starts = r.starts;
      reduces = r.reduces;
    }

-- a list that ascends still does with a greater element behind
ascend_push : {X : Type 0} (s : Setting) (sig : X → Monomial) (xs : List X) (new : X)
    → ((x y : X) (k : Contains xs x) (l : Contains xs y) → k.0 < l.0 → IsLess s (sig x) (sig y))
    → ((x : X) → Contains xs x → IsLess s (sig x) (sig new))
    → (x y : X) (k : Contains (xs ++ (new ∷ [])) x) (l : Contains (xs ++ (new ∷ [])) y) → k.0 < l.0
    → IsLess s (sig x) (sig y)
ascend_push s sig xs new old below x y k l m =
    go (front_or_later xs (new ∷ []) x k) (front_or_later xs (new ∷ []) y l)
  where
    go : ((k' : Contains xs x) × (k'.0 ≡ k.0)) ⊎ (Contains (new ∷ []) x × (length xs ≤ k.0))
        → ((l' : Contains xs y) × (l'.0 ≡ l.0)) ⊎ (Contains (new ∷ []) y × (length xs ≤ l.0))
        → IsLess s (sig x) (sig y)
    go (inl (k', e)) (inl (l', d)) = old x y k' l' (omega (arith, e, d, m))
    go (inl (k', e)) (inr (c, b)) =
        subst (λ z. IsLess s (sig x) (sig z)) (only_one new y c) (below x k')
    go (inr (c, b)) o = absurd (omega (arith, b, m, l.1, length-append xs (new ∷ [])))

pub record Rebuilt (P : Problem) (state : State) (last : Option Monomial) : Type 0 where
  pub entries : (e : Entry) → Contains state.entries e
      → Rebuilds P.setting state.entries e.signature e.trace e.polynomial
  pub syzygies : (h : Syzygy) → Contains state.syzygies h
      → Rebuilds P.setting state.entries h.signature h.trace []
  pub reached : (h : Syzygy) → Contains state.syzygies h → IsReached P.setting last h.signature
  pub entries_ascend : (e e' : Entry) (k : Contains state.entries e)
      (k' : Contains state.entries e') → k.0 < k'.0 → IsLess P.setting e.signature e'.signature
  pub syzygies_ascend : (h h' : Syzygy) (k : Contains state.syzygies h)
      (k' : Contains state.syzygies h') → k.0 < k'.0 → IsLess P.setting h.signature h'.signature

module _ (P : Problem) (field : IsField P.setting.prime) (state : State) (last : Option Monomial)
    (inv : Invariant P state last) (old : Rebuilt P state last) (τ : Monomial)
    (next : IsNext P state last τ) where
  below : (e : Entry) → Contains state.entries e → IsLess P.setting e.signature τ
  below e c = reached_less P last e.signature τ (inv.below_last e c) next.left

  below' : (h : Syzygy) → Contains state.syzygies h → IsLess P.setting h.signature τ
  below' h c = reached_less P last h.signature τ (old.reached h c) next.left

  still : (h : Syzygy) → Contains state.syzygies h → IsReached P.setting (Some τ) h.signature
  still h c = inr (below' h c)

  now : {f result : Polynomial} {start : Start} {steps : List Step}
      → Starts P.setting state.entries τ f start
      → ReductionAt P.setting state.entries τ f result steps
      → Rebuilds P.setting state.entries τ (record { start = start; steps = steps }) result
  now {f} starts reduction =
      record {
        first = state.entries;
        rest = [];
        splits = sym (append-nil state.entries);
        lesser = below;
        others = λ e c. absurd (omega (arith, c.1));
        start = f;
        starts = starts;
        reduces = reduction;
      }

  -- where nothing is listed
  unchanged : (covered settled : ℕ)
      → Rebuilt P (record state { covered = covered; settled = settled }) (Some τ)
  unchanged covered settled =
      record {
        entries = old.entries;
        syzygies = old.syzygies;
        reached = still;
        entries_ascend = old.entries_ascend;
        syzygies_ascend = old.syzygies_ascend;
      }

  rebuilt_step : {o : Outcome} → Handles P.setting state τ o
      → Rebuilt P (state_after state τ o) (Some τ)
  rebuilt_step (Handles.is_covered k) = unchanged (state.covered + 1) state.settled
  rebuilt_step (Handles.is_settled n u w d b m) = unchanged state.covered (state.settled + 1)
  rebuilt_step (Handles.is_syzygy n {start = start} {steps = steps} starts reduction) = record {
    entries = old.entries;
    syzygies = each_pushed (λ h. Rebuilds P.setting state.entries h.signature h.trace [])
        state.syzygies new old.syzygies (now starts reduction);
    reached = each_pushed (λ h. IsReached P.setting (Some τ) h.signature) state.syzygies new still
        (inl refl);
    entries_ascend = old.entries_ascend;
    syzygies_ascend =
        ascend_push P.setting (λ h. h.signature) state.syzygies new old.syzygies_ascend below';
  }
    where
      new : Syzygy
      new = record { signature = τ; trace = record { start = start; steps = steps } }
  rebuilt_step (Handles.is_entry n {kept = kept} {t = t} {start = start} {steps = steps} starts
      reduction) = record {
        entries = each_pushed
            (λ e. Rebuilds P.setting (state.entries ++ (new ∷ [])) e.signature e.trace e.polynomial)
            state.entries new
            (λ e c. more P.setting state.entries e.signature e.trace e.polynomial (old.entries e c)
            new (inr (below e c)))
            (more P.setting state.entries τ (record { start = start; steps = steps }) (t ∷ kept)
            (now starts reduction) new (inl refl));
        syzygies =
            λ h c. more P.setting state.entries h.signature h.trace [] (old.syzygies h c) new
            (inr (below' h c));
        reached = still;
        entries_ascend =
            ascend_push P.setting (λ e. e.signature) state.entries new old.entries_ascend below;
        syzygies_ascend = old.syzygies_ascend;
      }
    where
      new : Entry
      new = new_entry τ (t ∷ kept) (record { start = start; steps = steps })

pub rebuilt : (P : Problem) → IsField P.setting.prime
    → {n : ℕ} {state : State} {last : Option Monomial} → SequentialRun P n state last
    → Rebuilt P state last
rebuilt P field SequentialRun.opened =
    record {
      entries = λ e c. absurd (omega (arith, c.1));
      syzygies = λ h c. absurd (omega (arith, c.1));
      reached = λ h c. absurd (omega (arith, c.1));
      entries_ascend = λ e e' k k' l. absurd (omega (arith, k.1));
      syzygies_ascend = λ e e' k k' l. absurd (omega (arith, k.1));
    }
rebuilt P field (SequentialRun.handled {state = state} {last = last} run τ next o h) =
    rebuilt_step P field state last (invariant P field run) (rebuilt P field run) τ next h
