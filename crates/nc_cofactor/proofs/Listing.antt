-- The list of labels: each label is given by its entry's trace over the list itself.
-- `label_by_trace` says so. It does not matter what stands in the places that a trace does not name
-- (`alike_label`), so code may put anything there.
use Rattle.nc_algebra.proofs.Finite.{among_contains}
use Rattle.nc_algebra.proofs.Lists.{same-append, same-refl}
use Rattle.nc_algebra.specs.Elements.{Element, element_times}
use Rattle.nc_algebra.specs.Monomials.{same_monomial, unit_monomial}
use Rattle.nc_algebra.specs.Sums.{SameSum, minus, scale}
use Rattle.nc_cofactor.proofs.Keys.{among_all}
use Rattle.nc_cofactor.proofs.Sums.{same_minus, same_scale, same_times}
use Rattle.nc_cofactor.specs.Terms.{Names, StartNames}
use Rattle.nc_theory.specs.Labels.{label_at, labels_onto, less_steps, start_label, step_multiples, trace_label}
use Rattle.nc_theory.specs.States.{Entry, Start, Step, Trace}
use Rattle.std.proofs.Common.{List, Some, [], ap, append_assoc, arith, inl, inr, length, length-append, refl, suc, sym, zero, ℕ, ◌+◌, ◌++◌, ◌-◌, ◌<◌, ◌∙◌, ◌∷◌, ◌≡◌, ◌≤◌}
use Rattle.std.proofs.lemmas.List.{append-nil, get_or_append_left, get_or_at}
use Rattle.std.proofs.lemmas.Option.{slice_get_within}
use Rattle.std.specs.List.{AllByRecursion, slice_get}

pub step_multiples-push : (ls : List Element) (steps : List Step) (t : Step)
    → step_multiples ls (steps ++ (t ∷ [])) ≡ scale t.coefficient
    (element_times t.left (label_at ls t.number) t.right) ++ step_multiples ls steps
step_multiples-push ls [] t =
    sym (append-nil (scale t.coefficient (element_times t.left (label_at ls t.number) t.right)))
step_multiples-push ls (x ∷ steps) t =
    let one : Element = scale t.coefficient (element_times t.left (label_at ls t.number) t.right) in
    let other : Element =
    scale x.coefficient (element_times x.left (label_at ls x.number) x.right) in
    ap (λ (l : Element). l ++ other) (step_multiples-push ls steps t)
    ∙ append_assoc one (step_multiples ls steps) other

-- what holds of each entry that a trace names holds of each step's
pub named_steps : (Q : ℕ → Type 0) (t : Trace) → ((j : ℕ) → Names t j → Q j)
    → AllByRecursion (λ step. Q step.number) t.steps
named_steps Q t h =
    among_all (λ (step : Step). Q step.number) t.steps
    (λ step k. h step.number (inr (step, among_contains step t.steps k, refl)))

module _ (p : ℕ) where
  pub less_steps-push : (ls : List Element) (α : Element) (steps : List Step) (t : Step)
      → less_steps p ls α (steps ++ (t ∷ [])) ≡ minus p (less_steps p ls α steps) t.coefficient
      (element_times t.left (label_at ls t.number) t.right)
  less_steps-push ls α [] t = refl
  less_steps-push ls α (x ∷ steps) t =
      less_steps-push ls (minus p α x.coefficient
      (element_times x.left (label_at ls x.number) x.right)) steps t

  -- ---- the same labels where a trace names them

  same_start : (ls ls' : List Element) (start : Start)
      → ((j : ℕ) → StartNames start j → label_at ls j ≡ label_at ls' j)
      → start_label ls start ≡ start_label ls' start
  same_start ls ls' (Start.a_generator i) h = refl
  same_start ls ls' (Start.a_multiple u k v) h =
      ap (λ (l : Element). element_times u l v) (h k refl)

  same_steps : (ls ls' : List Element) (α : Element) (steps : List Step)
      → AllByRecursion (λ t. label_at ls t.number ≡ label_at ls' t.number) steps
      → less_steps p ls α steps ≡ less_steps p ls' α steps
  same_steps ls ls' α [] a = refl
  same_steps ls ls' α (t ∷ steps) a =
      ap (λ (l : Element). less_steps p ls
      (minus p α t.coefficient (element_times t.left l t.right)) steps) a.0
      ∙ same_steps ls ls' (minus p α t.coefficient
      (element_times t.left (label_at ls' t.number) t.right)) steps a.1

  same_label : (ls ls' : List Element) (t : Trace)
      → ((j : ℕ) → Names t j → label_at ls j ≡ label_at ls' j)
      → trace_label p ls t ≡ trace_label p ls' t
  same_label ls ls' t h =
      ap (λ (α : Element). less_steps p ls α t.steps)
      (same_start ls ls' t.start (λ j k. h j (inl k))) ∙ same_steps ls ls' (start_label ls' t.start)
      t.steps (named_steps (λ j. label_at ls j ≡ label_at ls' j) t h)

  -- ---- the same sums there

  alike_start : 0 < p → (ls ls' : List Element) (start : Start)
      → ((j : ℕ) → StartNames start j → SameSum same_monomial p (label_at ls j) (label_at ls' j))
      → SameSum same_monomial p (start_label ls start) (start_label ls' start)
  alike_start some ls ls' (Start.a_generator i) h =
      same-refl same_monomial p (record { coefficient = 1; key = unit_monomial i } ∷ [])
  alike_start some ls ls' (Start.a_multiple u k v) h =
      same_times p some u (label_at ls k) (label_at ls' k) v (h k refl)

  alike_steps : 0 < p → (ls ls' : List Element) (α β : Element) (steps : List Step)
      → AllByRecursion (λ t. SameSum same_monomial p (label_at ls t.number) (label_at ls' t.number))
      steps → SameSum same_monomial p α β
      → SameSum same_monomial p (less_steps p ls α steps) (less_steps p ls' β steps)
  alike_steps some ls ls' α β [] a e = e
  alike_steps some ls ls' α β (t ∷ steps) a e =
      alike_steps some ls ls' (minus p α t.coefficient
      (element_times t.left (label_at ls t.number) t.right))
      (minus p β t.coefficient (element_times t.left (label_at ls' t.number) t.right)) steps a.1
      (same_minus same_monomial p t.coefficient α β
      (element_times t.left (label_at ls t.number) t.right)
      (element_times t.left (label_at ls' t.number) t.right) e
      (same_times p some t.left (label_at ls t.number) (label_at ls' t.number) t.right a.0))

  pub alike_label : 0 < p → (ls ls' : List Element) (t : Trace)
      → ((j : ℕ) → Names t j → SameSum same_monomial p (label_at ls j) (label_at ls' j))
      → SameSum same_monomial p (trace_label p ls t) (trace_label p ls' t)
  alike_label some ls ls' t h =
      alike_steps some ls ls' (start_label ls t.start) (start_label ls' t.start) t.steps
      (named_steps (λ j. SameSum same_monomial p (label_at ls j) (label_at ls' j)) t h)
      (alike_start some ls ls' t.start (λ j k. h j (inl k)))

  -- the same sums of multiples
  pub alike_multiples : 0 < p → (ls ls' : List Element) (steps : List Step)
      → AllByRecursion (λ t. SameSum same_monomial p (label_at ls t.number) (label_at ls' t.number))
      steps → SameSum same_monomial p (step_multiples ls steps) (step_multiples ls' steps)
  alike_multiples some ls ls' [] a = same-refl same_monomial p []
  alike_multiples some ls ls' (t ∷ steps) a =
      same-append same_monomial p (step_multiples ls steps) (step_multiples ls' steps)
      (scale t.coefficient (element_times t.left (label_at ls t.number) t.right))
      (scale t.coefficient (element_times t.left (label_at ls' t.number) t.right))
      (alike_multiples some ls ls' steps a.1)
      (same_scale same_monomial p t.coefficient
      (element_times t.left (label_at ls t.number) t.right)
      (element_times t.left (label_at ls' t.number) t.right)
      (same_times p some t.left (label_at ls t.number) (label_at ls' t.number) t.right a.0))

  -- ---- the list

  onto_front : (ls : List Element) (es : List Entry) (j : ℕ) → 1 ≤ j → j ≤ length ls
      → label_at (labels_onto p ls es) j ≡ label_at ls j
  onto_front ls [] j a b = refl
  onto_front ls (e ∷ es) j a b =
      onto_front (ls ++ (trace_label p ls e.trace ∷ [])) es j a
      (omega (arith, length-append ls (trace_label p ls e.trace ∷ []), b))
      ∙ get_or_append_left ls (trace_label p ls e.trace ∷ []) [] (j - 1) (omega arith)

  -- the label at a place, where the trace there names earlier places alone
  onto_at : (ls : List Element) (es : List Entry) (i : ℕ) (e : Entry) → slice_get es i ≡ Some e
      → ((j : ℕ) → Names e.trace j → (1 ≤ j) × (j ≤ length ls + i))
      → label_at (labels_onto p ls es) (length ls + i + 1) ≡ trace_label p (labels_onto p ls es)
      e.trace
  onto_at ls [] i e is names = absurd (omega (arith, slice_get_within [] i e is))
  onto_at ls (x ∷ es) zero e is names =
      let new : List Element = ls ++ (trace_label p ls x.trace ∷ []) in
      let same : x ≡ e = cc in
      let longer : length new ≡ length ls + 1 = length-append ls (trace_label p ls x.trace ∷ []) in
      let old : (j : ℕ) → 1 ≤ j → j ≤ length ls
      → label_at (labels_onto p new es) j ≡ label_at ls j =
      λ j a b. onto_front ls (x ∷ es) j a b in
      onto_front new es (length ls + zero + 1) (omega arith) (omega (arith, longer))
      ∙ (get_or_at ls (trace_label p ls x.trace) [] [] (length ls + zero + 1 - 1) (omega arith)
      ∙ (ap (λ (y : Entry). trace_label p ls y.trace) same
      ∙ sym (same_label (labels_onto p new es) ls e.trace
      (λ j k. old j (names j k).0 (omega (arith, (names j k).1))))))
  onto_at ls (x ∷ es) (suc i) e is names =
      let new : List Element = ls ++ (trace_label p ls x.trace ∷ []) in
      let longer : length new ≡ length ls + 1 = length-append ls (trace_label p ls x.trace ∷ []) in
      ap (λ n. label_at (labels_onto p new es) n) (omega (arith, longer))
      ∙ onto_at new es i e is (λ j k. ((names j k).0, omega (arith, (names j k).1, longer)))

  -- from the beginning
  pub label_by_trace : (es : List Entry) (k : ℕ) (e : Entry) → 1 ≤ k → slice_get es (k - 1) ≡ Some e
      → ((j : ℕ) → Names e.trace j → (1 ≤ j) × (j < k))
      → label_at (labels_onto p [] es) k ≡ trace_label p (labels_onto p [] es) e.trace
  label_by_trace es k e some is names =
      ap (λ n. label_at (labels_onto p [] es) n) (omega arith)
      ∙ onto_at [] es (k - 1) e is (λ j h. ((names j h).0, omega (arith, (names j h).1)))
