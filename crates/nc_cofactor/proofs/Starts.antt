-- What is reduced at a signature over the first entries.
-- The generator (`generator_over`), or the best multiple among these entries, whose word has a
-- regular divisor because the best multiple is unique (`multiple_over`). The law on fronts of lists
-- passes from the reduction over all entries to that over the first ones (`rebuilds_over`).
use Rattle.nc_algebra.proofs.Words.{word_irrefl, word_trans}
use Rattle.nc_algebra.specs.Elements.{IsGenerator, Setting}
use Rattle.nc_algebra.specs.Monomials.{Monomial, times, unit_monomial}
use Rattle.nc_algebra.specs.Polynomials.{Polynomial, polynomial_times}
use Rattle.nc_algebra.specs.Words.{IsWordLess, Word}
use Rattle.nc_cofactor.proofs.Lesser.{front_number, of_front, to_front}
use Rattle.nc_cofactor.specs.Rebuilding.{AreLesser, HasStart, IsStartOver}
use Rattle.nc_criteria.specs.Multiples.{IsBestMultipleWithin, IsBestWithin, IsMultipleWithin}
use Rattle.nc_criteria.specs.declared.multiple.Multiple.{Multiple}
use Rattle.nc_reduce.proofs.Starts.{polynomial_at}
use Rattle.nc_reduce.specs.Starts.{polynomial_of, start_polynomial}
use Rattle.nc_theory.proofs.Rebuilding.{reduction_front}
use Rattle.nc_theory.specs.Divisors.{Divisor, IsBestMultiple, RegularDivisor, number_of, signature_at}
use Rattle.nc_theory.specs.Rebuilding.{Rebuilds}
use Rattle.nc_theory.specs.Reductions.{ReductionAt}
use Rattle.nc_theory.specs.Runs.{Starts}
use Rattle.nc_theory.specs.States.{Entry, Start, Trace}
use Rattle.std.proofs.Common.{List, None, Some, ap, arith, drop, inl, inr, length, refl, subst, subst₂, sym, take, ℕ, ◌+◌, ◌-◌, ◌∙◌, ◌≡◌, ◌≢◌, ◌≤◌, ◌⊎◌}
use Rattle.std.proofs.lemmas.List.{take-append-drop}
use Rattle.std.proofs.lemmas.Option.{slice_get_read}
use Rattle.std.specs.List.{slice_get}

-- ---- a generator

pub generator_over : (s : Setting) (entries : List Entry) (τ : Monomial) (m : ℕ)
    → IsGenerator s τ.generator → τ ≡ unit_monomial τ.generator
    → IsStartOver s entries τ m (Start.a_generator τ.generator)
generator_over s entries τ m is unit =
    record { signed = (is, unit); starts = Starts.at_generator τ.generator unit }

-- ---- the best multiple

module _ (s : Setting) (entries : List Entry) (τ : Monomial) (m : ℕ) where
  -- a place of one of the first entries is one among all, under the same number
  abbrev on : (w : Word) → Divisor s (take m entries) w → Divisor s entries w
  on w d =
      record {
        entry = d.entry;
        listed = of_front m entries d.entry d.listed;
        left = d.left;
        right = d.right;
        spells = d.spells;
      }

  on_within : (w : Word) (d : Divisor s (take m entries) w)
      → signature_at s (take m entries) w d ≡ τ → IsMultipleWithin s entries τ 0 m w (on w d)
  on_within w d signed =
      record {
        signed = signed;
        later = omega arith;
        within = omega (arith, front_number m entries d.entry d.listed);
      }

  -- and one whose number is not too great is one of the first entries
  abbrev back : (w : Word) (d : Divisor s entries w) → number_of s entries w d ≤ m
      → Divisor s (take m entries) w
  back w d h =
      record {
        entry = d.entry;
        listed = to_front m entries d.entry d.listed (omega (arith, h));
        left = d.left;
        right = d.right;
        spells = d.spells;
      }

  best_back : (w : Word) (d : Divisor s entries w) (b : IsBestMultipleWithin s entries τ 0 m w d)
      → IsBestMultiple s (take m entries) τ w (back w d b.multiple.within)
  best_back w d b =
      record { signed = b.multiple.signed; least = λ v e i. b.least v (on v e) (on_within v e i) }

  module _ (other : τ ≢ unit_monomial τ.generator) where
    no_unit : (i : ℕ) → τ ≢ unit_monomial i
    no_unit i e = other (e ∙ ap unit_monomial (sym (ap (λ (σ : Monomial). σ.generator) e)))

    -- where something is reduced there is a multiple
    pub best_is_some : HasStart s entries τ m → ¬ IsBestWithin s entries τ 0 m None
    best_is_some (f, start, h) none = go h
      where
        go : {g : Polynomial} {a : Start} → Starts s (take m entries) τ g a → ⊥
        go (Starts.at_generator i e) = no_unit i e
        go (Starts.at_multiple n w d best r) = none w (on w d) (on_within w d best.signed)

    module _ (b : Multiple) (best : IsBestWithin s entries τ 0 m (Some b)) where
      at : slice_get entries (b.number - 1) ≡ Some best.1.entry
      at =
          let place : best.1.listed.0 ≡ b.number - 1 = omega (arith, best.3) in
          subst (λ k. slice_get entries k ≡ Some best.1.entry) place
          (slice_get_read entries (length entries) best.1.listed.0 best.1.entry refl
          best.1.listed.1 (sym best.1.listed.2))

      some : 1 ≤ b.number
      some = omega (arith, best.3)

      read : best.1.entry.polynomial ≡ polynomial_of entries b.number
      read = sym (polynomial_at entries b.number best.1.entry some at)

      is_best : IsBestMultiple s (take m entries) τ best.0
          (back best.0 best.1 best.2.multiple.within)
      is_best = best_back best.0 best.1 best.2

      -- its word has a regular divisor, since it is the best one there
      regular : {f : Polynomial} {start : Start} → Starts s (take m entries) τ f start
          → RegularDivisor s (take m entries) τ best.0
      regular (Starts.at_generator i e) = absurd (no_unit i e)
      regular (Starts.at_multiple n w d b' r) =
          subst (RegularDivisor s (take m entries) τ)
          (same (b'.least best.0 (back best.0 best.1 best.2.multiple.within) is_best.signed)
          (is_best.least w d b'.signed)) r
        where
          same : IsWordLess w best.0 ⊎ ((w ≡ best.0) × (d.listed.0 + 1 ≤ best.1.listed.0 + 1))
              → IsWordLess best.0 w ⊎ ((best.0 ≡ w) × (best.1.listed.0 + 1 ≤ d.listed.0 + 1))
              → w ≡ best.0
          same (inr (i, k)) o = i
          same (inl l) (inr (i, k)) = sym i
          same (inl l) (inl k) = absurd (word_irrefl w (word_trans w best.0 w l k))

      starts : {f : Polynomial} {start : Start} → Starts s (take m entries) τ f start
          → Starts s (take m entries) τ (start_polynomial s entries
          (Start.a_multiple (take b.left τ.left) b.number (drop b.right τ.right)))
          (Start.a_multiple (take b.left τ.left) b.number (drop b.right τ.right))
      starts h =
          subst₂ (Starts s (take m entries) τ)
          (λ i. polynomial_times (best.4 i) (read i) (best.5 i))
          (λ i. Start.a_multiple (best.4 i) (best.3 i) (best.5 i))
          (Starts.at_multiple no_unit best.0 (back best.0 best.1 best.2.multiple.within) is_best
          (regular h))

      pub multiple_over : HasStart s entries τ m → (start : Start)
          → start ≡ Start.a_multiple (take b.left τ.left) b.number (drop b.right τ.right)
          → IsStartOver s entries τ m start
      multiple_over (f, a, h) start is = subst (IsStartOver s entries τ m) (sym is) (record {
        signed = (
          best.1.entry,
          some,
          at,
          (λ i. times (sym best.4 i) best.1.entry.signature
              (sym best.5 i)) ∙ best.2.multiple.signed,
        );
        starts = starts h;
      })

-- ---- the whole trace

pub rebuilds_over : (s : Setting) (entries : List Entry) (τ : Monomial) (m : ℕ)
    → AreLesser s entries τ m → (start : Start) → IsStartOver s entries τ m start
    → (kept : Polynomial) (t : Trace) → t.start ≡ start
    → ReductionAt s entries τ (start_polynomial s entries start) kept t.steps
    → Rebuilds s entries τ t kept
rebuilds_over s entries τ m a start over kept t is reduces = record {
  first = take m entries;
  rest = drop m entries;
  splits = sym (take-append-drop m entries);
  lesser = a.lesser;
  others = a.others;
  start = start_polynomial s entries start;
  starts =
      subst (Starts s (take m entries) τ (start_polynomial s entries start)) (sym is) over.starts;
  reduces =
      (reduction_front s (take m entries) (drop m entries) τ a.others
      (start_polynomial s entries start) kept t.steps).0
      (subst (λ l. ReductionAt s l τ (start_polynomial s entries start) kept t.steps)
      (sym (take-append-drop m entries)) reduces);
}
