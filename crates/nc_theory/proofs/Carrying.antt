-- A reduction hands the label on.
-- `Carries`: an element has signature τ with coefficient 1, and evaluates to the polynomial that is
-- left, plus what was kept. A step subtracts a multiple with a lesser signature from both
-- (`subtracted`); keeping a term leaves the element as it is.
use Rattle.nc_algebra.proofs.Elements.{HasGenerator, element_times_leads, evaluation-minus, evaluation_times, in_minus, in_times, leads_minus}
use Rattle.nc_algebra.proofs.Monomials.{monomial_laws}
use Rattle.nc_algebra.proofs.Sums.{coefficient-minus, zero_mul_left, zero_number}
use Rattle.nc_algebra.specs.Elements.{Element, IsIn, IsLabelled, IsLess, IsSignatureOf, Setting, element_times, evaluation, generator_weight}
use Rattle.nc_algebra.specs.Monomials.{Monomial, same_monomial}
use Rattle.nc_algebra.specs.Polynomials.{Polynomial, coefficient}
use Rattle.nc_algebra.specs.Primes.{IsField}
use Rattle.nc_algebra.specs.Sums.{coefficient_by, minus}
use Rattle.nc_algebra.specs.Words.{Word}
use Rattle.nc_theory.proofs.Chains.{coefficient_polynomial_minus, sum_mod, times_mod}
use Rattle.nc_theory.specs.Divisors.{Divisor, multiple_at, signature_at}
use Rattle.nc_theory.specs.Reductions.{Reduction, ReductionAt}
use Rattle.nc_theory.specs.States.{Entry, Step}
use Rattle.std.proofs.Common.{◌≡◌, ℕ, ◌+◌, ◌-◌, ◌*◌, ◌%◌, ◌<◌, List, [], ◌∷◌, refl, sym, ap, ◌∙◌, arith, Contains}
use Rattle.std.proofs.Math.Nat.{add-mul-mod_self_left}

-- α has signature τ with coefficient 1, and evaluates to f and what `kept` gives
pub record Carries (s : Setting) (τ : Monomial) (f : Polynomial) (kept : Word → ℕ)
    (α : Element) : Type 0 where
  pub lies : IsIn s α (HasGenerator s)
  pub leads : IsSignatureOf s α τ
  pub one : coefficient_by same_monomial α τ % s.prime ≡ 1
  pub value : (y : Word) → coefficient (evaluation s α) y % s.prime ≡ (coefficient f y + kept y)
      % s.prime

module _ (s : Setting) (field : IsField s.prime) (entries : List Entry) (labels : (e : Entry)
    → Contains entries e → (α : Element) × IsLabelled s e.signature e.polynomial α) (τ : Monomial)
  where
    positive : 0 < s.prime
    positive = omega (arith, field.above_one)

    -- p times k more makes no difference
    pub back_and_forth : (p f d k : ℕ) → 0 < p → ((f + (p - 1) * 1 * k) + (k + d)) % p ≡ (f + d) % p
    back_and_forth p f d k l =
        ap (λ n. n % p) (form (p - 1) (omega arith)) ∙ add-mul-mod_self_left (f + d) p k
      where
        form : (q : ℕ) → p ≡ q + 1 → (f + q * 1 * k) + (k + d) ≡ (f + d) + p * k
        form q e = omega (arith, ap (λ n. n * k) e)

    pub subtracted : (f : Polynomial) (kept : Word → ℕ) (α : Element) (w : Word)
        (v : Divisor s entries w) (c : ℕ) → IsLess s (signature_at s entries w v) τ
        → Carries s τ f kept α → (β : Element) → IsLabelled s v.entry.signature v.entry.polynomial β
        → Carries s τ (minus s.prime f c (multiple_at s entries w v)) kept
        (minus s.prime α c (element_times v.left β v.right))
    subtracted f kept α w v c below carries β label = record {
      lies = in_minus s α c (element_times v.left β v.right) carries.lies
          (in_times s v.left β v.right label.lies);
      leads = leads_minus s α c (element_times v.left β v.right) τ (signature_at s entries w v)
          carries.leads δ_leads below;
      one = ap (λ n. n % s.prime) (coefficient-minus same_monomial (IsLess s)
          (monomial_laws (generator_weight s)) s.prime α c (element_times v.left β v.right) τ)
          ∙ (sum_mod s.prime (coefficient_by same_monomial α τ) (coefficient_by same_monomial α τ)
          ((s.prime - 1) * c * coefficient_by same_monomial (element_times v.left β v.right) τ) 0
          refl (zero_mul_left s.prime ((s.prime - 1) * c)
          (coefficient_by same_monomial (element_times v.left β v.right) τ)
          (δ_leads.above τ below) ∙ sym (zero_number s.prime))
          ∙ (ap (λ n. n % s.prime) (omega arith) ∙ carries.one));
      value = λ y. ap (λ n. n % s.prime) (evaluation-minus s α c (element_times v.left β v.right) y)
          ∙ (sum_mod s.prime (coefficient (evaluation s α) y) (coefficient f y + kept y)
          ((s.prime - 1) * c * coefficient (evaluation s (element_times v.left β v.right)) y)
          ((s.prime - 1) * c * coefficient (multiple_at s entries w v) y) (carries.value y)
          (times_mod s.prime ((s.prime - 1) * c)
          (coefficient (evaluation s (element_times v.left β v.right)) y)
          (coefficient (multiple_at s entries w v) y)
          ((evaluation_times s v.left β v.entry.polynomial v.right positive label.evaluates).at
          y)) ∙ ap (λ n. n % s.prime) (swap_last (coefficient f y) (kept y)
          ((s.prime - 1) * c * coefficient (multiple_at s entries w v) y)
          ∙ ap (λ n. n + kept y) (sym (coefficient_polynomial_minus s f c
          (multiple_at s entries w v) y))));
    }
      where
        δ_leads : IsSignatureOf s (element_times v.left β v.right) (signature_at s entries w v)
        δ_leads = element_times_leads s v.left β v.right v.entry.signature label.leads

        swap_last : (a b c : ℕ) → (a + b) + c ≡ (a + c) + b
        swap_last a b c = omega arith

    pub carry : {f kept : Polynomial} {steps : List Step} → ReductionAt s entries τ f kept steps
        → (old : Word → ℕ) (α : Element) → Carries s τ f old α → (β : Element)
        × Carries s τ kept old β
    carry (Reduction.finished {f = f} n) old α carries = (
      α,
      record {
        lies = carries.lies;
        leads = carries.leads;
        one = carries.one;
        value = λ y. carries.value y ∙ sum_mod s.prime (coefficient f y) 0 (old y) (old y)
            (n y ∙ sym (zero_number s.prime)) refl;
      },
    )
    carry (Reduction.subtract {f = f} w d v chosen c small q rest) old α carries =
        let t : (β : Element) × IsLabelled s v.entry.signature v.entry.polynomial β =
        labels v.entry v.listed in carry rest old
        (minus s.prime α c (element_times v.left t.0 v.right))
        (subtracted f old α w v c chosen.allowed carries t.0 t.1)
    carry (Reduction.keep {f = f} {kept = kept} w d not_any c e rest) old α carries =
        join (carry rest (λ y. coefficient (record { coefficient = c; key = w } ∷ []) y + old y) α
        (record {
          lies = carries.lies;
          leads = carries.leads;
          one = carries.one;
          value = λ y. carries.value y ∙ (sym (back_and_forth s.prime (coefficient f y) (old y)
              (coefficient (record { coefficient = c; key = w } ∷ []) y) positive)
              ∙ ap (λ n. (n + (coefficient (record { coefficient = c; key = w } ∷ []) y + old y))
              % s.prime) (sym (coefficient_polynomial_minus s f 1
              (record { coefficient = c; key = w } ∷ []) y)));
        }))
      where
        join : (β : Element) × Carries s τ kept
            (λ y. coefficient (record { coefficient = c; key = w } ∷ []) y + old y) β
            → (β : Element)
            × Carries s τ (record { coefficient = c; key = w } ∷ kept) old β
        join (β, k) = (
          β,
          record {
            lies = k.lies;
            leads = k.leads;
            one = k.one;
            value = λ y. k.value y ∙ ap (λ n. n % s.prime) (omega arith);
          },
        )
