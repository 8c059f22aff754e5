-- An earlier state of a run is the front of a later one, and the stale law over runs.
-- A run passes through a state at each number (`earlier`), and by uniqueness this is the earlier
-- one (`extends`).
use Rattle.nc_algebra.proofs.Orders.{nat_order}
use Rattle.nc_algebra.specs.Elements.{IsZeroPolynomial}
use Rattle.nc_algebra.specs.Monomials.{Monomial}
use Rattle.nc_algebra.specs.Primes.{IsField}
use Rattle.nc_algebra.specs.Problems.{Problem}
use Rattle.nc_theory.proofs.Completeness.{invariant}
use Rattle.nc_theory.proofs.Determinism.{run_unique}
use Rattle.nc_theory.proofs.Fresh.{fresh, moved_fresh, unaffected}
use Rattle.nc_theory.proofs.Stale.{stands, stood}
use Rattle.nc_theory.proofs.Untraced.{same_length}
use Rattle.nc_theory.proofs.UntracedRuns.{same_run}
use Rattle.nc_theory.proofs.UntracedStates.{SameStates, moved_handles, same_entries, same_syzygies}
use Rattle.nc_theory.specs.Stale.{IsFresh}
use Rattle.nc_theory.specs.Untraced.{IsRunOf, untraced_entry, untraced_syzygy}
use Rattle.nc_theory.specs.Runs.{Handles, Outcome, SequentialRun, opening, state_after}
use Rattle.nc_theory.proofs.Unaffected.{Extension, Unaffected}
use Rattle.nc_theory.specs.States.{Entry, State}
use Rattle.std.proofs.Common.{length, Contains, None, Option, Some, [], ◌+◌, ap, append-nil, append_assoc, arith, inl, inr, subst, suc, sym, zero, ℕ, ◌++◌, ◌∙◌, ◌≡◌, ◌≤◌, ◌<◌, ◌∷◌, ◌⊎◌, ◌↔◌}

extension_refl : (state : State) → Extension state state
extension_refl state =
    let e : state.entries ≡ state.entries ++ [] =
    sym (append-nil state.entries) in let h : state.syzygies ≡ state.syzygies ++ [] =
    sym (append-nil state.syzygies) in record {
      es = [];
      hs = [];
      is = λ i. record {
        entries = e i;
        syzygies = h i;
        covered = state.covered;
        settled = state.settled;
      };
    }

-- the counts do not matter
extension_kept : (state later : State) (covered settled : ℕ) → Extension state later
    → Extension state (record later { covered = covered; settled = settled })
extension_kept state later covered settled x =
    record {
      es = x.es;
      hs = x.hs;
      is = λ i. record {
        entries = (x.is i).entries;
        syzygies = (x.is i).syzygies;
        covered = covered;
        settled = settled;
      };
    }

extension_after : (state later : State) (τ : Monomial) (o : Outcome) → Extension state later
    → Extension state (state_after later τ o)
extension_after state later τ Outcome.covered x =
    extension_kept state later (later.covered + 1) later.settled x
extension_after state later τ (Outcome.settled j) x =
    extension_kept state later later.covered (later.settled + 1) x
extension_after state later τ (Outcome.an_entry f trace) x =
    let e : later.entries ++ (record { signature = τ; polynomial = f; trace = trace } ∷ [])
    ≡ state.entries ++ (x.es ++ (record { signature = τ; polynomial = f; trace = trace } ∷ []))
    = ap (λ l. l.entries ++ (record { signature = τ; polynomial = f; trace = trace } ∷ [])) x.is
    ∙ append_assoc state.entries x.es (record { signature = τ; polynomial = f; trace = trace }
    ∷ []) in record {
      es = x.es ++ (record { signature = τ; polynomial = f; trace = trace }
          ∷ []);
      hs = x.hs;
      is = λ i. record {
        entries = e i;
        syzygies = (x.is i).syzygies;
        covered = later.covered;
        settled = later.settled;
      };
    }
extension_after state later τ (Outcome.a_syzygy trace) x =
    let h : later.syzygies ++ (record { signature = τ; trace = trace } ∷ []) ≡ state.syzygies
    ++ (x.hs ++ (record { signature = τ; trace = trace } ∷ [])) =
    ap (λ l. l.syzygies ++ (record { signature = τ; trace = trace } ∷ [])) x.is
    ∙ append_assoc state.syzygies x.hs (record { signature = τ; trace = trace } ∷ []) in
    record {
      es = x.es;
      hs = x.hs ++ (record { signature = τ; trace = trace } ∷ []);
      is = λ i. record {
        entries = (x.is i).entries;
        syzygies = h i;
        covered = later.covered;
        settled = later.settled;
      };
    }

-- each earlier number has a state, of which the later one is an extension
earlier : (P : Problem) → {n : ℕ} {later : State} {last : Option Monomial}
    → SequentialRun P n later last → (k : ℕ) → k ≤ n → (state : State) × (before : Option Monomial)
    × SequentialRun P k state before × Extension state later
earlier P SequentialRun.opened zero l =
    (opening, None, SequentialRun.opened, extension_refl (opening))
earlier P SequentialRun.opened (suc k) l = absurd (omega arith)
earlier P (SequentialRun.handled {n = n} {state = state} {last = last} run τ next o h) k l =
    go (nat_order k (suc n)) (earlier P run k)
  where
    go : (k < suc n) ⊎ ((k ≡ suc n) ⊎ (suc n < k))
        → (k ≤ n → (state' : State) × (before : Option Monomial) × SequentialRun P k state' before
        × Extension state' state) → (state' : State) × (before : Option Monomial)
        × SequentialRun P k state' before × Extension state' (state_after state τ o)
    go (inl m) f =
        let t : (state' : State) × (before : Option Monomial) × SequentialRun P k state' before
        × Extension state' state =
        f (omega arith) in (t.0, t.1, t.2, extension_after t.0 state τ o t.3)
    go (inr (inl e)) f = (
      state_after state τ o,
      Some τ,
      subst (λ m. SequentialRun P m (state_after state τ o) (Some τ)) (sym e)
          (SequentialRun.handled run τ next o h),
      extension_refl (state_after state τ o),
    )
    go (inr (inr m)) f = absurd (omega arith)

pub extends : (P : Problem) → IsField P.setting.prime
    → {k n : ℕ} {state later : State} {before last : Option Monomial}
    → SequentialRun P k state before → SequentialRun P n later last → k ≤ n → Extension state later
extends P field {k} {state = state} {later = later} run run' l = go (earlier P run' k l)
  where
    go : (state' : State) × (before' : Option Monomial) × SequentialRun P k state' before'
        × Extension state' later → Extension state later
    go (a, b, r, x) = subst (λ y. Extension y later) (run_unique P field r run).0 x

-- an outcome found over an earlier state is that over a later one exactly where it is covered or
-- nothing newer bears on it
pub stale : (P : Problem) → IsField P.setting.prime
    → {k n : ℕ} {state later : State} {before last : Option Monomial}
    → SequentialRun P k state before → SequentialRun P n later last → k ≤ n
    → (x : Extension state later) × ((τ : Monomial) (o : Outcome) → Handles P.setting state τ o
    → Handles P.setting later τ o ↔ ((o ≡ Outcome.covered)
    ⊎ Unaffected P.setting state x.es x.hs τ o))
stale P field {state = state} {later = later} run run' l = (
  x,
  λ τ o h. (
    λ g. stood P.setting field state alive x.es x.hs later.covered later.settled τ
        nonzero (subst (λ y. Handles P.setting y τ o) x.is g),
    λ u. subst (λ y. Handles P.setting y τ o) (sym x.is)
        (stands P.setting field state alive x.es x.hs later.covered later.settled τ h u),
  ),
)
  where
    x : Extension state later
    x = extends P field run run' l

    alive : (e : Entry) → Contains state.entries e → ¬ IsZeroPolynomial P.setting e.polynomial
    alive = (invariant P field run).sound.nonzero

    nonzero : (e : Entry) → Contains (state.entries ++ (extends P field run run' l).es) e
        → ¬ IsZeroPolynomial P.setting e.polynomial
    nonzero e c =
        (invariant P field run').sound.nonzero e
        (subst (λ y. Contains y.entries e) (sym (extends P field run run' l).is) c)

-- the same, told of the later state and two counts
pub stale_or_fresh : (P : Problem) → IsField P.setting.prime
    → {k n : ℕ} {state later : State} {before last : Option Monomial}
    → SequentialRun P k state before → SequentialRun P n later last → k ≤ n → (τ : Monomial)
    (o : Outcome) → Handles P.setting state τ o → Handles P.setting later τ o
    ↔ ((o ≡ Outcome.covered)
    ⊎ IsFresh P.setting later (length state.entries) (length state.syzygies) τ o)
stale_or_fresh P field {state = state} {later = later} run run' l τ o h = (
  λ g. elim ((t.1 τ o h).0 g) [ inl e ↦ inl e | inr u ↦ inr (there u) ],
  λ u. (t.1 τ o h).1 (elim u [ inl e ↦ inl e | inr f ↦ inr (back f) ]),
)
  where
    t : (x : Extension state later) × ((τ : Monomial) (o : Outcome) → Handles P.setting state τ o
        → Handles P.setting later τ o ↔ ((o ≡ Outcome.covered)
        ⊎ Unaffected P.setting state x.es x.hs τ o))
    t = stale P field run run' l

    there : Unaffected P.setting state t.0.es t.0.hs τ o
        → IsFresh P.setting later (length state.entries) (length state.syzygies) τ o
    there u =
        subst (λ y. IsFresh P.setting y (length state.entries) (length state.syzygies) τ o)
        (sym t.0.is)
        (fresh P.setting state t.0.es t.0.hs later.covered later.settled τ h u)

    back : IsFresh P.setting later (length state.entries) (length state.syzygies) τ o
        → Unaffected P.setting state t.0.es t.0.hs τ o
    back f =
        unaffected P.setting state t.0.es t.0.hs later.covered later.settled τ
        (subst (λ y. IsFresh P.setting y (length state.entries) (length state.syzygies) τ o)
        t.0.is f)

-- and so it is without traces
pub untraced_stale : (P : Problem) → IsField P.setting.prime
    → {k n : ℕ} {state later : State} → IsRunOf P k state → IsRunOf P n later → k ≤ n
    → (τ : Monomial) (o : Outcome) → Handles P.setting state τ o → Handles P.setting later τ o
    ↔ ((o ≡ Outcome.covered)
    ⊎ IsFresh P.setting later (length state.entries) (length state.syzygies) τ o)
untraced_stale P field {state = state} {later = later} r r' l τ o h = (
  λ g. elim (t.0 (moved_handles P.setting later r'.run same' τ o g)) [
    | inl e ↦ inl e
    | inr f ↦ inr (there f)
  ],
  λ u. moved_handles P.setting r'.run later (sym same') τ o
      (t.1 (elim u [ inl e ↦ inl e | inr f ↦ inr (back f) ])),
)
  where
    same : SameStates state r.run
    same = same_run state r.run r.stands

    same' : SameStates later r'.run
    same' = same_run later r'.run r'.stands

    t : Handles P.setting r'.run τ o ↔ ((o ≡ Outcome.covered)
        ⊎ IsFresh P.setting r'.run (length r.run.entries) (length r.run.syzygies) τ o)
    t =
        stale_or_fresh P field r.runs r'.runs l τ o (moved_handles P.setting state r.run same τ o h)

    entries : length state.entries ≡ length r.run.entries
    entries =
        same_length untraced_entry state.entries r.run.entries (same_entries state r.run same)

    syzygies : length state.syzygies ≡ length r.run.syzygies
    syzygies =
        same_length untraced_syzygy state.syzygies r.run.syzygies (same_syzygies state r.run same)

    there : IsFresh P.setting r'.run (length r.run.entries) (length r.run.syzygies) τ o
        → IsFresh P.setting later (length state.entries) (length state.syzygies) τ o
    there f =
        subst (λ i. IsFresh P.setting later i (length state.syzygies) τ o) (sym entries)
        (subst (λ i. IsFresh P.setting later (length r.run.entries) i τ o) (sym syzygies)
        (moved_fresh P.setting r'.run later (sym same') (length r.run.entries)
        (length r.run.syzygies) τ o f))

    back : IsFresh P.setting later (length state.entries) (length state.syzygies) τ o
        → IsFresh P.setting r'.run (length r.run.entries) (length r.run.syzygies) τ o
    back f =
        moved_fresh P.setting later r'.run same' (length r.run.entries) (length r.run.syzygies) τ o
        (subst (λ i. IsFresh P.setting later i (length r.run.syzygies) τ o) entries
        (subst (λ i. IsFresh P.setting later (length state.entries) i τ o) syzygies f))
