-- What is left of a claim, reduced within the bound, is zero exactly where the claim has a
-- representation within the bound.
use Rattle.nc_algebra.proofs.Elements.{HasGenerator, coefficient-evaluation, element_times_leads, evaluation-minus, evaluation_times, evaluation_zero, image, in_minus, in_times}
use Rattle.nc_algebra.proofs.Monomials.{monomial_laws}
use Rattle.nc_algebra.proofs.Sums.{below_lead, linear_sum-append, linear_sum-scale, top, zero_add, zero_dec, zero_mul_left, zero_number}
use Rattle.nc_algebra.specs.Elements.{Element, IsIn, IsLabelled, IsLess, IsSignatureOf, SamePolynomial, Setting, element_times, evaluation, generator_weight}
use Rattle.nc_algebra.specs.Monomials.{Monomial, same_monomial}
use Rattle.nc_algebra.specs.Polynomials.{Polynomial, coefficient}
use Rattle.nc_algebra.specs.Primes.{IsField, IsZero}
use Rattle.nc_algebra.specs.Sums.{coefficient_by, is_at, minus, scale}
use Rattle.nc_algebra.specs.Words.{Word}
use Rattle.nc_theory.proofs.Chains.{coefficient_polynomial_minus, same_lead, sum_mod, times_mod}
use Rattle.nc_theory.proofs.Closure.{put_back}
use Rattle.nc_theory.proofs.Relisted.{respelled}
use Rattle.nc_theory.specs.Bases.{HasRepresentation, IsBasisBelow, IsSound, ReducesToZero}
use Rattle.nc_theory.specs.Labels.{label_at, step_multiples}
use Rattle.nc_theory.specs.Divisors.{Divisor, multiple_at, signature_at}
use Rattle.nc_theory.specs.Reductions.{Reduction}
use Rattle.nc_theory.specs.States.{Entry, State, Step}
use Rattle.std.proofs.Common.{◌≡◌, ℕ, ◌+◌, ◌-◌, ◌*◌, ◌%◌, ◌<◌, ◌⊎◌, List, [], ◌∷◌, ◌++◌, refl, sym, ap, ap₂, ◌∙◌, subst, inl, inr, arith, Contains}

module _ (s : Setting) (field : IsField s.prime) (state : State) (sound : IsSound s state)
    (bound : Monomial → Type 0) (down : (σ τ : Monomial) → bound τ → IsLess s σ τ → HasGenerator s σ
    → bound σ) where
  positive : 0 < s.prime
  positive = omega (arith, field.above_one)

  -- a multiple of a label lies within the bound where its signature does
  multiple_within : (w : Word) (d : Divisor s state.entries w)
      → bound (signature_at s state.entries w d) → (β : Element)
      → IsLabelled s d.entry.signature d.entry.polynomial β
      → IsIn s (element_times d.left β d.right) bound
  multiple_within w d b β label σ n =
      go (below_lead same_monomial (IsLess s) (monomial_laws (generator_weight s)) s.prime
      (element_times d.left β d.right) (signature_at s state.entries w d) σ
      (element_times_leads s d.left β d.right d.entry.signature label.leads) n)
    where
      go : (σ ≡ signature_at s state.entries w d) ⊎ IsLess s σ (signature_at s state.entries w d)
          → bound σ
      go (inl e) = subst bound (sym e) b
      go (inr l) =
          down σ (signature_at s state.entries w d) b l (in_times s d.left β d.right label.lies σ n)

  module_of : (e : Entry) → Contains state.entries e → HasGenerator s e.signature
  module_of e k =
      let t : (α : Element) × IsLabelled s e.signature e.polynomial α =
      sound.entries e k in t.1.lies e.signature t.1.leads.nonzero

  same_minus_eval : (f : Polynomial) (α : Element) (c : ℕ) (w : Word)
      (d : Divisor s state.entries w) (β : Element)
      → IsLabelled s d.entry.signature d.entry.polynomial β → SamePolynomial s (evaluation s α) f
      → SamePolynomial s (evaluation s (minus s.prime α c (element_times d.left β d.right)))
      (minus s.prime f c (multiple_at s state.entries w d))
  same_minus_eval f α c w d β label e =
      record {
        at = λ y. ap (λ n. n % s.prime)
            (evaluation-minus s α c (element_times d.left β d.right) y)
            ∙ (sum_mod s.prime (coefficient (evaluation s α) y) (coefficient f y)
            ((s.prime - 1) * c * coefficient (evaluation s (element_times d.left β d.right)) y)
            ((s.prime - 1) * c * coefficient (multiple_at s state.entries w d) y) (e.at y)
            (times_mod s.prime ((s.prime - 1) * c)
            (coefficient (evaluation s (element_times d.left β d.right)) y)
            (coefficient (multiple_at s state.entries w d) y)
            ((evaluation_times s d.left β d.entry.polynomial d.right positive label.evaluates).at
            y)) ∙ ap (λ n. n % s.prime) (sym (coefficient_polynomial_minus s f c
            (multiple_at s state.entries w d) y)));
      }

  -- where there is a representation within the bound, nothing is kept
  pub none_kept : IsBasisBelow s state bound → {f kept : Polynomial} {steps : List Step}
      → Reduction s state.entries bound f kept steps → HasRepresentation s bound f → kept ≡ []
  none_kept basis (Reduction.finished n) has = refl
  none_kept basis (Reduction.subtract {f = f} w d v chosen c small q rest) (α, lies, e) =
      let t : (β : Element) × IsLabelled s v.entry.signature v.entry.polynomial β =
      sound.entries v.entry v.listed in
      none_kept basis rest (
        minus s.prime α c (element_times v.left t.0 v.right),
        in_minus s α c (element_times v.left t.0 v.right) lies
            (multiple_within w v chosen.allowed t.0 t.1),
        same_minus_eval f α c w v t.0 t.1 e,
      )
  none_kept basis (Reduction.keep {f = f} w d any c q rest) (α, lies, e) =
      absurd (go (top same_monomial (IsLess s) (monomial_laws (generator_weight s)) s.prime α))
    where
      begins : (σ : Monomial) → bound σ → {g : Polynomial} → ReducesToZero s state.entries σ g
          → SamePolynomial s g f → ⊥
      begins σ b (ReducesToZero.done z) i = d.nonzero (sym (i.at w) ∙ z w)
      begins σ b (ReducesToZero.step {f = g} x gl v le k r rest') i =
          any (respelled v (same_lead s g f x w i gl d)) (place le)
        where
          place : (signature_at s state.entries x v ≡ σ)
              ⊎ IsLess s (signature_at s state.entries x v) σ
              → bound (signature_at s state.entries x v)
          place (inl j) = subst bound (sym j) b
          place (inr l) = down (signature_at s state.entries x v) σ b l (module_of v.entry v.listed)

      go : ((σ : Monomial) → IsZero s.prime (coefficient_by same_monomial α σ))
          ⊎ ((σ : Monomial) × IsSignatureOf s α σ) → ⊥
      go (inl z) = d.nonzero (sym (e.at w) ∙ evaluation_zero s α z w)
      go (inr (σ, l)) = begins σ (lies σ l.nonzero) (basis α σ lies l) e

  -- one subtracted multiple more
  join_multiple : (f kept : Polynomial) (w : Word) (v : Divisor s state.entries w)
      → bound (signature_at s state.entries w v) → (c : ℕ) (α β : Element) → IsIn s α bound
      → ((y : Word) → coefficient (minus s.prime f c (multiple_at s state.entries w v)) y % s.prime
      ≡ (coefficient (evaluation s α) y + coefficient kept y) % s.prime)
      → IsLabelled s v.entry.signature v.entry.polynomial β
      → IsIn s (α ++ scale c (element_times v.left β v.right)) bound
      × ((y : Word) → coefficient f y % s.prime
      ≡ (coefficient (evaluation s (α ++ scale c (element_times v.left β v.right))) y
      + coefficient kept y) % s.prime)
  join_multiple f kept w v allowed c α β lies e label = (within, value)
    where
      within : IsIn s (α ++ scale c (element_times v.left β v.right)) bound
      within σ n =
          go (zero_dec s.prime (coefficient_by same_monomial α σ))
          (zero_dec s.prime (coefficient_by same_monomial (element_times v.left β v.right) σ))
        where
          go : IsZero s.prime (coefficient_by same_monomial α σ)
              ⊎ ¬ IsZero s.prime (coefficient_by same_monomial α σ)
              → IsZero s.prime (coefficient_by same_monomial (element_times v.left β v.right) σ)
              ⊎ ¬ IsZero s.prime (coefficient_by same_monomial (element_times v.left β v.right) σ)
              → bound σ
          go (inr nz) o = lies σ nz
          go (inl z) (inr nz) = multiple_within w v allowed β label σ nz
          go (inl z) (inl x) =
              absurd (n (subst (IsZero s.prime)
              (sym (linear_sum-append (is_at same_monomial σ) α
              (scale c (element_times v.left β v.right))
              ∙ ap (λ m. coefficient_by same_monomial α σ + m)
              (linear_sum-scale (is_at same_monomial σ) c
              (element_times v.left β v.right))))
              (zero_add s.prime (coefficient_by same_monomial α σ)
              (c * coefficient_by same_monomial (element_times v.left β v.right) σ) z
              (zero_mul_left s.prime c (coefficient_by same_monomial
              (element_times v.left β v.right) σ) x))))

      evaluated : (y : Word) → coefficient
          (evaluation s (α ++ scale c (element_times v.left β v.right))) y ≡ coefficient
          (evaluation s α) y + c * coefficient (evaluation s (element_times v.left β v.right)) y
      evaluated y =
          coefficient-evaluation s (α ++ scale c (element_times v.left β v.right)) y
          ∙ (linear_sum-append (image s y) α (scale c (element_times v.left β v.right))
          ∙ ap₂ (λ a b. a + b) (sym (coefficient-evaluation s α y))
          (linear_sum-scale (image s y) c (element_times v.left β v.right)
          ∙ ap (λ m. c * m) (sym (coefficient-evaluation s (element_times v.left β v.right)
          y))))

      swap_last : (a b c : ℕ) → (a + b) + c ≡ (a + c) + b
      swap_last a b c = omega arith

      value : (y : Word) → coefficient f y % s.prime
          ≡ (coefficient (evaluation s (α ++ scale c (element_times v.left β v.right))) y
          + coefficient kept y) % s.prime
      value y =
          put_back s.prime (coefficient f y) c (coefficient (multiple_at s state.entries w v) y)
          (coefficient (evaluation s (element_times v.left β v.right)) y) positive
          (sym ((evaluation_times s v.left β v.entry.polynomial v.right positive label.evaluates).at
          y)) ∙ (sum_mod s.prime (coefficient f y + (s.prime - 1) * c
          * coefficient (multiple_at s state.entries w v) y)
          (coefficient (evaluation s α) y + coefficient kept y)
          (c * coefficient (evaluation s (element_times v.left β v.right)) y)
          (c * coefficient (evaluation s (element_times v.left β v.right)) y)
          (ap (λ n. n % s.prime) (sym (coefficient_polynomial_minus s f c
          (multiple_at s state.entries w v) y)) ∙ e y) refl
          ∙ ap (λ n. n % s.prime) (swap_last (coefficient (evaluation s α) y) (coefficient kept y)
          (c * coefficient (evaluation s (element_times v.left β v.right)) y)
          ∙ ap (λ n. n + coefficient kept y) (sym (evaluated y))))

  -- what was subtracted is a representation of what is not kept
  pub representation : {f kept : Polynomial} {steps : List Step}
      → Reduction s state.entries bound f kept steps → (α : Element) × IsIn s α bound
      × ((y : Word) → coefficient f y % s.prime
      ≡ (coefficient (evaluation s α) y + coefficient kept y) % s.prime)
  representation (Reduction.finished {f = f} n) =
      ([], (λ σ nz. absurd (nz (zero_number s.prime))), λ y. n y ∙ sym (zero_number s.prime))
  representation (Reduction.subtract {f = f} {kept = kept} w d v chosen c small q rest) =
      join (representation rest) (sound.entries v.entry v.listed)
    where
      join : (α : Element) × IsIn s α bound
          × ((y : Word) → coefficient (minus s.prime f c (multiple_at s state.entries w v)) y
          % s.prime ≡ (coefficient (evaluation s α) y + coefficient kept y) % s.prime)
          → (β : Element) × IsLabelled s v.entry.signature v.entry.polynomial β → (α : Element)
          × IsIn s α bound × ((y : Word)
          → coefficient f y % s.prime ≡ (coefficient (evaluation s α) y + coefficient kept y)
          % s.prime)
      join (α, lies, e) (β, label) =
          let r : IsIn s (α ++ scale c (element_times v.left β v.right)) bound
          × ((y : Word) → coefficient f y % s.prime
          ≡ (coefficient (evaluation s (α ++ scale c (element_times v.left β v.right))) y
          + coefficient kept y) % s.prime) =
          join_multiple f kept w v chosen.allowed c α β lies e label in
          (α ++ scale c (element_times v.left β v.right), r.0, r.1)
  representation (Reduction.keep {f = f} {kept = kept} w d any c q rest) =
      join (representation rest)
    where
      join : (α : Element) × IsIn s α bound
          × ((y : Word) → coefficient (minus s.prime f 1 (record { coefficient = c; key = w } ∷ []))
          y % s.prime ≡ (coefficient (evaluation s α) y + coefficient kept y) % s.prime)
          → (α : Element) × IsIn s α bound
          × ((y : Word) → coefficient f y % s.prime
          ≡ (coefficient (evaluation s α) y
          + coefficient (record { coefficient = c; key = w } ∷ kept) y) % s.prime)
      join (α, lies, e) = (
        α,
        lies,
        λ y. put_back s.prime (coefficient f y) 1
            (coefficient (record { coefficient = c; key = w } ∷ []) y)
            (coefficient (record { coefficient = c; key = w } ∷ []) y) positive refl
            ∙ (sum_mod s.prime (coefficient f y + (s.prime - 1) * 1
            * coefficient (record { coefficient = c; key = w } ∷ []) y)
            (coefficient (evaluation s α) y + coefficient kept y)
            (1 * coefficient (record { coefficient = c; key = w } ∷ []) y)
            (1 * coefficient (record { coefficient = c; key = w } ∷ []) y)
            (ap (λ n. n % s.prime) (sym (coefficient_polynomial_minus s f 1
            (record { coefficient = c; key = w } ∷ []) y)) ∙ e y) refl
            ∙ ap (λ n. n % s.prime) (omega arith)),
      )

  -- and the labels of the multiples that were subtracted sum up to one
  pub represents : (labels : List Element)
      → ((e : Entry) (k : Contains state.entries e)
      → IsLabelled s e.signature e.polynomial (label_at labels (k.0 + 1)))
      → {f kept : Polynomial} {steps : List Step} → Reduction s state.entries bound f kept steps
      → IsIn s (step_multiples labels steps) bound
      × ((y : Word) → coefficient f y % s.prime
      ≡ (coefficient (evaluation s (step_multiples labels steps)) y + coefficient kept y)
      % s.prime)
  represents labels labelled (Reduction.finished {f = f} n) =
      (λ σ nz. absurd (nz (zero_number s.prime)), λ y. n y ∙ sym (zero_number s.prime))
  represents labels labelled (Reduction.subtract {f = f} {kept = kept} {steps = steps} w d v chosen
      c small q rest) =
      let t : IsIn s (step_multiples labels steps) bound
      × ((y : Word) → coefficient (minus s.prime f c (multiple_at s state.entries w v)) y
      % s.prime ≡ (coefficient (evaluation s (step_multiples labels steps)) y
      + coefficient kept y) % s.prime) =
      represents labels labelled rest in
      join_multiple f kept w v chosen.allowed c (step_multiples labels steps)
      (label_at labels (v.listed.0 + 1)) t.0 t.1 (labelled v.entry v.listed)
  represents labels labelled (Reduction.keep {f = f} {kept = kept} {steps = steps} w d any c q rest)
      = let t : IsIn s (step_multiples labels steps) bound
      × ((y : Word) → coefficient (minus s.prime f 1 (record { coefficient = c; key = w } ∷ [])) y
      % s.prime ≡ (coefficient (evaluation s (step_multiples labels steps)) y + coefficient kept
      y) % s.prime) =
      represents labels labelled rest in (
        t.0,
        λ y. put_back s.prime (coefficient f y) 1
            (coefficient (record { coefficient = c; key = w } ∷ []) y)
            (coefficient (record { coefficient = c; key = w } ∷ []) y) positive refl
            ∙ (sum_mod s.prime (coefficient f y + (s.prime - 1) * 1
            * coefficient (record { coefficient = c; key = w } ∷ []) y)
            (coefficient (evaluation s (step_multiples labels steps)) y + coefficient kept y)
            (1 * coefficient (record { coefficient = c; key = w } ∷ []) y)
            (1 * coefficient (record { coefficient = c; key = w } ∷ []) y)
            (ap (λ n. n % s.prime) (sym (coefficient_polynomial_minus s f 1
            (record { coefficient = c; key = w } ∷ []) y)) ∙ t.1 y) refl
            ∙ ap (λ n. n % s.prime) (omega arith)),
      )
