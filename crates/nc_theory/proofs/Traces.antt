-- The label that a trace gives is a label.
-- As in `Carrying.antt`, with the list of labels in hand (`carry_start`, `carry_steps`). The list
-- grows at its end (`labels_push`), and a trace names only entries that were there (`start_names`,
-- `reduction_names`), so what it reads does not change (`trace_kept`). `LabelInvariant` is the
-- invariant of the run.
use Rattle.nc_algebra.proofs.Elements.{HasGenerator, element_times_coefficient, element_times_leads, evaluation_times, in_times}
use Rattle.nc_algebra.proofs.Sums.{zero_number}
use Rattle.nc_algebra.specs.Elements.{Element, IsLabelled, IsSignatureOf, Setting, element_times, generator}
use Rattle.nc_algebra.specs.Monomials.{Monomial, same_monomial, unit_monomial}
use Rattle.nc_algebra.specs.Polynomials.{Polynomial, coefficient}
use Rattle.nc_algebra.specs.Primes.{IsField}
use Rattle.nc_algebra.specs.Problems.{Problem}
use Rattle.nc_algebra.specs.Sums.{coefficient_by, minus}
use Rattle.nc_algebra.specs.Words.{Word}
use Rattle.nc_theory.proofs.Carrying.{Carries, back_and_forth, subtracted}
use Rattle.nc_theory.proofs.Chains.{coefficient_polynomial_minus, sum_mod}
use Rattle.nc_theory.proofs.Completeness.{labelled_from, unit_carries}
use Rattle.nc_theory.proofs.Pushed.{each_pushed}
use Rattle.nc_theory.proofs.Fronts.{front_or_later}
use Rattle.nc_theory.specs.Labels.{label_at, labels_of, labels_onto, less_steps, start_label, trace_label}
use Rattle.nc_theory.specs.Reductions.{Reduction, ReductionAt}
use Rattle.nc_theory.specs.Runs.{Handles, Outcome, SequentialRun, Starts, state_after}
use Rattle.nc_theory.specs.States.{Entry, Start, State, Step, Syzygy, Trace}
use Rattle.std.proofs.Common.{Contains, List, Option, [], ap, arith, get_or, inl, inr, length, length-append, refl, subst, sym, ℕ, ◌%◌, ◌+◌, ◌++◌, ◌-◌, ◌<◌, ◌∙◌, ◌∷◌, ◌≡◌, ◌≤◌, ◌⊎◌}
use Rattle.std.proofs.lemmas.List.{get_or_append_left, get_or_at}

-- ---- the list of labels

labels_push : (p : ℕ) (ls : List Element) (es : List Entry) (e : Entry)
    → labels_onto p ls (es ++ (e ∷ [])) ≡ labels_onto p ls es
    ++ (trace_label p (labels_onto p ls es) e.trace ∷ [])
labels_push p ls [] e = refl
labels_push p ls (x ∷ es) e = labels_push p (ls ++ (trace_label p ls x.trace ∷ [])) es e

labels_length : (p : ℕ) (ls : List Element) (es : List Entry)
    → length (labels_onto p ls es) ≡ length ls + length es
labels_length p ls [] = omega arith
labels_length p ls (x ∷ es) =
    omega (
      arith,
      labels_length p (ls ++ (trace_label p ls x.trace ∷ [])) es,
      length-append ls (trace_label p ls x.trace ∷ []),
    )

label_kept : (ls : List Element) (x : Element) (j : ℕ) → 0 < j → j ≤ length ls
    → label_at (ls ++ (x ∷ [])) j ≡ label_at ls j
label_kept ls x j a b = get_or_append_left ls (x ∷ []) [] (j - 1) (omega arith)

-- a trace that names entries up to n alone
abbrev pub NamesUpTo : ℕ → List Step → Type 0
NamesUpTo n [] = Unit {0}
NamesUpTo n (t ∷ steps) = ((0 < t.number) × (t.number ≤ n)) × NamesUpTo n steps

abbrev pub StartUpTo : ℕ → Start → Type 0
StartUpTo n (Start.a_generator i) = Unit {0}
StartUpTo n (Start.a_multiple u j v) = (0 < j) × (j ≤ n)

steps_kept : (p : ℕ) (ls : List Element) (x : Element) (α : Element) (steps : List Step)
    → NamesUpTo (length ls) steps → less_steps p (ls ++ (x ∷ [])) α steps ≡ less_steps p ls α steps
steps_kept p ls x α [] h = refl
steps_kept p ls x α (t ∷ steps) h =
    ap (λ l. less_steps p (ls ++ (x ∷ []))
    (minus p α t.coefficient (element_times t.left l t.right)) steps)
    (label_kept ls x t.number h.0.0 h.0.1)
    ∙ steps_kept p ls x (minus p α t.coefficient
    (element_times t.left (label_at ls t.number) t.right)) steps h.1

start_kept : (ls : List Element) (x : Element) (start : Start) → StartUpTo (length ls) start
    → start_label (ls ++ (x ∷ [])) start ≡ start_label ls start
start_kept ls x (Start.a_generator i) h = refl
start_kept ls x (Start.a_multiple u j v) h =
    ap (λ l. element_times u l v) (label_kept ls x j h.0 h.1)

trace_kept : (p : ℕ) (ls : List Element) (x : Element) (trace : Trace)
    → StartUpTo (length ls) trace.start → NamesUpTo (length ls) trace.steps
    → trace_label p (ls ++ (x ∷ [])) trace ≡ trace_label p ls trace
trace_kept p ls x trace a b =
    ap (λ α. less_steps p (ls ++ (x ∷ [])) α trace.steps) (start_kept ls x trace.start a)
    ∙ steps_kept p ls x (start_label ls trace.start) trace.steps b

names_more : (m n : ℕ) → m ≤ n → (steps : List Step) → NamesUpTo m steps → NamesUpTo n steps
names_more m n l [] h = tt
names_more m n l (t ∷ steps) h = ((h.0.0, omega (arith, l, h.0.1)), names_more m n l steps h.1)

start_more : (m n : ℕ) → m ≤ n → (start : Start) → StartUpTo m start → StartUpTo n start
start_more m n l (Start.a_generator i) h = tt
start_more m n l (Start.a_multiple u j v) h = (h.0, omega (arith, l, h.1))

-- ---- a reduction and its label

module _ (s : Setting) (field : IsField s.prime) (entries : List Entry) (ls : List Element)
    (labelled : (e : Entry) (k : Contains entries e)
    → IsLabelled s e.signature e.polynomial (label_at ls (k.0 + 1))) (τ : Monomial) where
  carry_steps : {f kept : Polynomial} {steps : List Step} → ReductionAt s entries τ f kept steps
      → (old : Word → ℕ) (α : Element) → Carries s τ f old α
      → Carries s τ kept old (less_steps s.prime ls α steps)
  carry_steps (Reduction.finished {f = f} n) old α carries =
      record {
        lies = carries.lies;
        leads = carries.leads;
        one = carries.one;
        value = λ y. carries.value y
            ∙ sum_mod s.prime (coefficient f y) 0 (old y) (old y) (n y ∙ sym (zero_number s.prime))
            refl;
      }
  carry_steps (Reduction.subtract {f = f} w d v chosen c small q rest) old α carries =
      carry_steps rest old (minus s.prime α c
      (element_times v.left (label_at ls (v.listed.0 + 1)) v.right))
      (subtracted s field entries (λ e k. (label_at ls (k.0 + 1), labelled e k)) τ f old α w v c
      chosen.allowed carries (label_at ls (v.listed.0 + 1)) (labelled v.entry v.listed))
  carry_steps (Reduction.keep {f = f} {kept = kept} {steps = steps} w d not_any c e rest) old α
      carries =
      join (carry_steps rest (λ y. coefficient (record { coefficient = c; key = w } ∷ []) y + old y)
      α (record {
        lies = carries.lies;
        leads = carries.leads;
        one = carries.one;
        value = λ y. carries.value y ∙
            (sym (back_and_forth s field entries (λ e k. (label_at ls (k.0 + 1), labelled e k)) τ
            s.prime (coefficient f y) (old y)
            (coefficient (record { coefficient = c; key = w } ∷ []) y)
            (omega (arith, field.above_one)))
            ∙ ap (λ n. (n + (coefficient (record { coefficient = c; key = w } ∷ []) y + old y))
            % s.prime) (sym (coefficient_polynomial_minus s f 1
            (record { coefficient = c; key = w } ∷ []) y)));
      }))
    where
      join : Carries s τ kept (λ y. coefficient (record { coefficient = c; key = w } ∷ []) y
          + old y) (less_steps s.prime ls α steps)
          → Carries s τ (record { coefficient = c; key = w } ∷ kept) old
          (less_steps s.prime ls α steps)
      join k =
          record {
            lies = k.lies;
            leads = k.leads;
            one = k.one;
            value = λ y. k.value y ∙ ap (λ n. n % s.prime) (omega arith);
          }

  carry_start : HasGenerator s τ → {f : Polynomial} {start : Start} → Starts s entries τ f start
      → Carries s τ f (λ y. 0) (start_label ls start)
  carry_start inside (Starts.at_generator i e) =
      subst (λ ρ. Carries s ρ (generator s i) (λ y. 0)
      (record { coefficient = 1; key = unit_monomial i } ∷ [])) (sym e)
      (unit_carries s field i (subst (HasGenerator s) e inside))
  carry_start inside (Starts.at_multiple not_unit w d best regular) = record {
    lies = in_times s d.left (label_at ls (d.listed.0 + 1)) d.right
        (labelled d.entry d.listed).lies;
    leads = subst (IsSignatureOf s (element_times d.left (label_at ls (d.listed.0 + 1)) d.right))
        best.signed (element_times_leads s d.left (label_at ls (d.listed.0 + 1)) d.right
        d.entry.signature (labelled d.entry d.listed).leads);
    one = subst (λ ρ. coefficient_by same_monomial
        (element_times d.left (label_at ls (d.listed.0 + 1)) d.right) ρ % s.prime ≡ 1) best.signed
        (element_times_coefficient s d.left (label_at ls (d.listed.0 + 1)) d.right d.entry.signature
        ∙ (labelled d.entry d.listed).one);
    value = λ y. (evaluation_times s d.left (label_at ls (d.listed.0 + 1)) d.entry.polynomial
        d.right (omega (arith, field.above_one)) (labelled d.entry d.listed).evaluates).at y
        ∙ ap (λ n. n % s.prime) (omega arith);
  }

  trace_labelled : HasGenerator s τ → {f kept : Polynomial} {start : Start} {steps : List Step}
      → Starts s entries τ f start → ReductionAt s entries τ f kept steps
      → IsLabelled s τ kept (less_steps s.prime ls (start_label ls start) steps)
  trace_labelled inside {kept = kept} {start = start} {steps = steps} starts reduction =
      labelled_from s τ kept (less_steps s.prime ls (start_label ls start) steps)
      (carry_steps reduction (λ y. 0) (start_label ls start) (carry_start inside starts))

  reduction_names : {f kept : Polynomial} {steps : List Step} → ReductionAt s entries τ f kept steps
      → NamesUpTo (length entries) steps
  reduction_names (Reduction.finished n) = tt
  reduction_names (Reduction.subtract w d v chosen c small q rest) =
      ((omega arith, omega (arith, v.listed.1)), reduction_names rest)
  reduction_names (Reduction.keep w d any c e rest) = reduction_names rest

  start_names : {f : Polynomial} {start : Start} → Starts s entries τ f start
      → StartUpTo (length entries) start
  start_names (Starts.at_generator i e) = tt
  start_names (Starts.at_multiple n w d best regular) = (omega arith, omega (arith, d.listed.1))

-- ---- runs

pub record LabelInvariant (s : Setting) (state : State) : Type 0 where
  pub entries : (e : Entry) (k : Contains state.entries e)
      → IsLabelled s e.signature e.polynomial (label_at (labels_of s.prime state.entries) (k.0 + 1))
  pub syzygies : (h : Syzygy) → Contains state.syzygies h
      → IsLabelled s h.signature [] (trace_label s.prime (labels_of s.prime state.entries) h.trace)
  pub names : (h : Syzygy) → Contains state.syzygies h
      → StartUpTo (length state.entries) h.trace.start
      × NamesUpTo (length state.entries) h.trace.steps

pub only_one : {X : Type 0} → (x y : X) → Contains (x ∷ []) y → x ≡ y
only_one x y c =
    let first : c.0 ≡ 0 = omega (arith, c.1) in subst (λ n. get_or (x ∷ []) n y ≡ y) first c.2

module _ (s : Setting) (field : IsField s.prime) (state : State) (old : LabelInvariant s state)
    (τ : Monomial) (inside : HasGenerator s τ) where
  labels_are : length (labels_of s.prime state.entries) ≡ length state.entries
  labels_are = omega (arith, labels_length s.prime [] state.entries)

  syzygy_labels : {f : Polynomial} {start : Start} {steps : List Step}
      → Starts s state.entries τ f start → ReductionAt s state.entries τ f [] steps
      → LabelInvariant s (state_after state τ
      (Outcome.a_syzygy (record { start = start; steps = steps })))
  syzygy_labels {start = start} {steps = steps} starts reduction = record {
    entries = old.entries;
    syzygies = each_pushed (λ h. IsLabelled s h.signature []
        (trace_label s.prime (labels_of s.prime state.entries) h.trace)) state.syzygies new
        old.syzygies (trace_labelled s field state.entries (labels_of s.prime state.entries)
        old.entries τ inside starts reduction);
    names = each_pushed (λ h. StartUpTo (length state.entries) h.trace.start
        × NamesUpTo (length state.entries) h.trace.steps) state.syzygies new old.names (
          start_names s field state.entries (labels_of s.prime state.entries) old.entries τ starts,
          reduction_names s field state.entries (labels_of s.prime state.entries) old.entries τ
              reduction,
        );
  }
    where
      new : Syzygy
      new = record { signature = τ; trace = record { start = start; steps = steps } }

  entry_labels : {f g : Polynomial} {start : Start} {steps : List Step}
      → Starts s state.entries τ f start → ReductionAt s state.entries τ f g steps
      → LabelInvariant s (state_after state τ
      (Outcome.an_entry g (record { start = start; steps = steps })))
  entry_labels {g = g} {start = start} {steps = steps} starts reduction = record {
    entries =
        λ e k. label e k (front_or_later state.entries
        (new
        ∷ []) e k);
    syzygies =
        λ h k. subst (IsLabelled s h.signature [])
        (sym (ap (λ l. trace_label s.prime l h.trace) pushed
        ∙ trace_kept s.prime (labels_of s.prime state.entries)
        (less_steps s.prime (labels_of s.prime state.entries)
        (start_label (labels_of s.prime state.entries) start) steps) h.trace
        (subst (λ n. StartUpTo n h.trace.start) (sym labels_are) (old.names h k).0)
        (subst (λ n. NamesUpTo n h.trace.steps) (sym labels_are) (old.names h k).1)))
        (old.syzygies h k);
    names = λ h k. (
      start_more (length state.entries)
          (length (state.entries ++ (new ∷ []))) longer
          h.trace.start (old.names h k).0,
      names_more (length state.entries)
          (length (state.entries ++ (new ∷ []))) longer
          h.trace.steps (old.names h k).1,
    );
  }
    where
      new : Entry
      new =
          record {
            signature = τ;
            polynomial = g;
            trace = record { start = start; steps = steps };
          }

      longer : length state.entries ≤ length (state.entries
          ++ (new ∷ []))
      longer =
          omega (
            arith,
            length-append state.entries
                (new ∷ []),
          )

      pushed : labels_of s.prime (state.entries
          ++ (new ∷ [])) ≡ labels_of s.prime
          state.entries ++ (less_steps s.prime (labels_of s.prime state.entries)
          (start_label (labels_of s.prime state.entries) start) steps ∷ [])
      pushed =
          labels_push s.prime [] state.entries
          new

      label : (e : Entry) (k : Contains
          (state.entries ++ (new ∷ [])) e)
          → ((l : Contains state.entries e) × (l.0 ≡ k.0))
          ⊎ (Contains (new ∷ []) e
          × (length state.entries ≤ k.0))
          → IsLabelled s e.signature e.polynomial
          (label_at (labels_of s.prime (state.entries
          ++ (new ∷ []))) (k.0 + 1))
      label e k (inl (l, i)) =
          subst (IsLabelled s e.signature e.polynomial)
          (sym (ap (λ z. label_at z (k.0 + 1)) pushed
          ∙ (label_kept (labels_of s.prime state.entries)
          (less_steps s.prime (labels_of s.prime state.entries)
          (start_label (labels_of s.prime state.entries) start) steps) (k.0 + 1)
          (omega arith) (omega (arith, l.1, i, labels_are))
          ∙ ap (λ n. label_at (labels_of s.prime state.entries) (n + 1)) (sym i))))
          (old.entries e l)
      label e k (inr (c, b)) =
          subst (IsLabelled s e.signature e.polynomial)
          (sym (ap (λ z. label_at z (k.0 + 1)) pushed ∙ get_or_at (labels_of s.prime state.entries)
          (less_steps s.prime (labels_of s.prime state.entries)
          (start_label (labels_of s.prime state.entries) start) steps) [] [] (k.0 + 1 - 1)
          (omega (
            arith,
            labels_are,
            b,
            k.1,
            length-append state.entries (new ∷ []),
          ))))
          (subst (λ x. IsLabelled s x.signature x.polynomial
          (less_steps s.prime (labels_of s.prime state.entries)
          (start_label (labels_of s.prime state.entries) start) steps))
          (only_one new e c)
          (trace_labelled s field state.entries (labels_of s.prime state.entries) old.entries τ
          inside starts reduction))

  handled_labels : {o : Outcome} → Handles s state τ o → LabelInvariant s (state_after state τ o)
  handled_labels (Handles.is_covered k) =
      record { entries = old.entries; syzygies = old.syzygies; names = old.names }
  handled_labels (Handles.is_settled n u w d b m) =
      record { entries = old.entries; syzygies = old.syzygies; names = old.names }
  handled_labels (Handles.is_syzygy n starts reduction) = syzygy_labels starts reduction
  handled_labels (Handles.is_entry n starts reduction) = entry_labels starts reduction

pub labels_hold : (P : Problem) → IsField P.setting.prime
    → {n : ℕ} {state : State} {last : Option Monomial} → SequentialRun P n state last
    → LabelInvariant P.setting state
labels_hold P field SequentialRun.opened =
    record {
      entries = λ e k. absurd (omega (arith, k.1));
      syzygies = λ h k. absurd (omega (arith, k.1));
      names = λ h k. absurd (omega (arith, k.1));
    }
labels_hold P field (SequentialRun.handled {state = state} run τ next o h) =
    handled_labels P.setting field state (labels_hold P field run) τ next.candidate.0.0 h
