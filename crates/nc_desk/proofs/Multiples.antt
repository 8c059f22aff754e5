-- The best multiple that the criteria find: where a reduction starts, and what becomes of its
-- signature.
use Rattle.nc_algebra.proofs.Leading.{leading-normal}
use Rattle.nc_algebra.specs.Elements.{Setting}
use Rattle.nc_algebra.specs.Monomials.{Monomial, times, unit_monomial}
use Rattle.nc_algebra.specs.Polynomials.{IsNormal, Polynomial, leading, polynomial_times}
use Rattle.nc_algebra.specs.Words.{Word}
use Rattle.nc_criteria.specs.Multiples.{BestMultipleLaw, IsBestWithin}
use Rattle.nc_criteria.specs.declared.multiple.Multiple.{Multiple}
use Rattle.nc_reduce.proofs.Starts.{polynomial_at}
use Rattle.nc_snapshot.specs.Leads.{IsLeadOf}
use Rattle.nc_theory.proofs.Small.{usable_at}
use Rattle.nc_reduce.specs.Starts.{IsReadable, IsStartAt, polynomial_of, start_polynomial}
use Rattle.nc_theory.proofs.Handling.{handled}
use Rattle.nc_theory.specs.Outcomes.{outcome_after}
use Rattle.nc_theory.specs.Usable.{IsUsable}
use Rattle.nc_theory.specs.Divisors.{IsBestMultiple, RegularDivisor, multiple_at, number_of}
use Rattle.nc_theory.specs.Reductions.{ReductionAt}
use Rattle.nc_theory.specs.Runs.{Handles, Outcome, Starts}
use Rattle.nc_theory.specs.States.{Entry, Start, State, Step}
use Rattle.nc_theory.specs.Syzygies.{Covered}
use Rattle.std.proofs.Common.{List, Some, [], ap, ap₂, arith, drop, length, refl, subst, sym, take, ℕ, ◌+◌, ◌++◌, ◌-◌, ◌∙◌, ◌∷◌, ◌≡◌, ◌≢◌, ◌≤◌}
use Rattle.std.proofs.lemmas.Option.{slice_get_read}
use Rattle.std.specs.List.{All, slice_get}

-- ---- the leading word of a multiple that can be read

module _ (s : Setting) (entries : List Entry) (usable : All (IsUsable s) entries) (u v : Word)
    (j : ℕ) (readable : IsReadable s entries (Start.a_multiple u j v)) (e : Entry)
    (at : slice_get entries (j - 1) ≡ Some e) where
  usable_one : IsUsable s e
  usable_one = usable_at s entries usable (j - 1) e at

  read : polynomial_of entries j ≡ e.polynomial
  read = polynomial_at entries j e readable.0 at

  module _ (w : Word) (leads : IsLeadOf e.polynomial w) where
    pub lead_is : leading s.prime (polynomial_of entries j) ≡ w
    lead_is = ap (leading s.prime) read ∙ leads.leads s.prime usable_one.normal

    pub lead_few : length u + length w + length v ≤ 200000
    lead_few = go e.polynomial refl
      where
        go : (f : Polynomial) → e.polynomial ≡ f → length u + length w + length v ≤ 200000
        go [] i = absurd (leads.some i)
        go (t ∷ others) i =
            let first : t.key ≡ w =
            sym (leading-normal s.prime t others (subst (IsNormal s.prime) i usable_one.normal))
            ∙ (ap (leading s.prime) (sym i) ∙ leads.leads s.prime usable_one.normal) in
            subst (λ (x : Word). length u + length x + length v ≤ 200000) first
            ((subst (λ (f : Polynomial). All (λ x. length u + length x.key + length v ≤ 200000) f)
            (read ∙ i) readable.2) 0 t (omega arith))

-- ---- the best multiple

module _ (s : Setting) (state : State) (τ : Monomial) (m : Multiple)
    (best : IsBestWithin s state.entries τ 0 (length state.entries) (Some m)) where
  -- what stands before and behind the entry
  abbrev u : Word
  u = take m.left τ.left

  abbrev v : Word
  v = drop m.right τ.right

  some : 1 ≤ m.number
  some = omega (arith, best.3)

  at : slice_get state.entries (m.number - 1) ≡ Some best.1.entry
  at =
      let place : best.1.listed.0 ≡ m.number - 1 = omega (arith, best.3) in
      subst (λ k. slice_get state.entries k ≡ Some best.1.entry) place
      (slice_get_read state.entries (length state.entries) best.1.listed.0 best.1.entry refl
      best.1.listed.1 (sym best.1.listed.2))

  pub best_start : IsStartAt s state.entries τ (Start.a_multiple u m.number v)
  best_start = (
    best.1.entry,
    some,
    at,
    ap₂ (λ x y. times x best.1.entry.signature y) (sym best.4) (sym best.5)
        ∙ best.2.multiple.signed,
  )

  read_best : best.1.entry.polynomial ≡ polynomial_of state.entries m.number
  read_best = sym (polynomial_at state.entries m.number best.1.entry some at)

  spells : u ++ (leading s.prime (polynomial_of state.entries m.number) ++ v) ≡ best.0
  spells =
      ap₂ (λ x y. x ++ (leading s.prime (polynomial_of state.entries m.number) ++ y)) (sym best.4)
      (sym best.5) ∙ (ap (λ f. best.1.left ++ (leading s.prime f ++ best.1.right)) (sym read_best)
      ∙ best.1.spells)

  module _ (law : BestMultipleLaw) (uncovered : ¬ Covered s state τ)
      (other : τ ≢ unit_monomial τ.generator) (x : Word)
      (is_word : x ≡ u ++ (leading s.prime (polynomial_of state.entries m.number) ++ v)) where
    is_best : IsBestMultiple s state.entries τ best.0 best.1
    is_best = ((law s state.entries τ).1 best.0 best.1).0 best.2

    no_unit : (i : ℕ) → τ ≢ unit_monomial i
    no_unit i e = other (e ∙ ap unit_monomial (sym (ap (λ (σ : Monomial). σ.generator) e)))

    same : x ≡ best.0
    same = is_word ∙ spells

    pub best_settled : ¬ RegularDivisor s state.entries τ x
        → Handles s state τ (Outcome.settled m.number)
    best_settled none =
        subst (λ j. Handles s state τ (Outcome.settled j)) best.3
        (Handles.is_settled uncovered no_unit best.0 best.1 is_best
        (subst (λ y. ¬ RegularDivisor s state.entries τ y) same none))

    starts : RegularDivisor s state.entries τ x
        → Starts s state.entries τ (start_polynomial s state.entries
        (Start.a_multiple u m.number v)) (Start.a_multiple u m.number v)
    starts regular =
        let from : Starts s state.entries τ (multiple_at s state.entries best.0 best.1)
        (Start.a_multiple best.1.left (number_of s state.entries best.0 best.1) best.1.right) =
        Starts.at_multiple no_unit best.0 best.1 is_best
        (subst (RegularDivisor s state.entries τ) same regular) in
        let read : Starts s state.entries τ
        (polynomial_times best.1.left (polynomial_of state.entries m.number) best.1.right)
        (Start.a_multiple best.1.left m.number best.1.right) =
        subst (λ f. Starts s state.entries τ (polynomial_times best.1.left f best.1.right)
        (Start.a_multiple best.1.left m.number best.1.right)) read_best
        (subst (λ j. Starts s state.entries τ (multiple_at s state.entries best.0 best.1)
        (Start.a_multiple best.1.left j best.1.right)) best.3 from) in
        subst (λ y. Starts s state.entries τ
        (polynomial_times u (polynomial_of state.entries m.number) y)
        (Start.a_multiple u m.number y)) best.5
        (subst (λ y. Starts s state.entries τ
        (polynomial_times y (polynomial_of state.entries m.number) best.1.right)
        (Start.a_multiple y m.number best.1.right)) best.4 read)

    pub best_reduced : RegularDivisor s state.entries τ x
        → (start : Start) (kept : Polynomial) (steps : List Step) (o : Outcome)
        → start ≡ Start.a_multiple u m.number v
        → ReductionAt s state.entries τ (start_polynomial s state.entries start) kept steps
        → o ≡ outcome_after start kept steps → Handles s state τ o
    best_reduced regular start kept steps o is reduces made =
        handled s state τ uncovered (start_polynomial s state.entries start) kept start steps o
        (subst (λ (b : Start). Starts s state.entries τ (start_polynomial s state.entries b) b)
        (sym is) (starts regular)) reduces made
