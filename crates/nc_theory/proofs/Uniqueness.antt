-- An entry's polynomial is the one canonical polynomial at its signature.
use Rattle.nc_algebra.proofs.Elements.{HasGenerator, evaluation-minus, evaluation_zero, in_minus, strike_top}
use Rattle.nc_algebra.proofs.Monomials.{monomial_laws}
use Rattle.nc_algebra.proofs.Sums.{below_lead, same_from_zero, top, zero_add, zero_dec, zero_mul_left}
use Rattle.nc_algebra.proofs.Words.{word_laws}
use Rattle.nc_algebra.specs.Elements.{Element, IsLabelled, IsLeadingWord, IsLess, IsSignatureOf, SamePolynomial, Setting, evaluation, generator_weight}
use Rattle.nc_algebra.specs.Monomials.{Monomial, same_monomial}
use Rattle.nc_algebra.specs.Polynomials.{Polynomial, coefficient}
use Rattle.nc_algebra.specs.Primes.{IsField, IsZero}
use Rattle.nc_algebra.specs.Problems.{Problem}
use Rattle.nc_algebra.specs.Sums.{coefficient_by, minus}
use Rattle.nc_algebra.specs.Words.{IsWordLess, Word, same_word}
use Rattle.nc_theory.proofs.Chains.{coefficient_polynomial_minus, same_lead, sum_mod, times_mod}
use Rattle.nc_theory.proofs.Completeness.{IsWithinReached, enough_reached, invariant, reached_down, within_down}
use Rattle.nc_theory.proofs.Relisted.{respelled}
use Rattle.nc_theory.specs.Bases.{IsBasisBelow, IsCanonical, ReducesToZero}
use Rattle.nc_theory.specs.Divisors.{RegularDivisor, signature_at}
use Rattle.nc_theory.specs.Runs.{SequentialRun}
use Rattle.nc_theory.specs.States.{Entry, State}
use Rattle.std.proofs.Common.{◌≡◌, ℕ, ◌-◌, ◌*◌, ◌%◌, ◌<◌, ◌⊎◌, sym, ap, ◌∙◌, subst, inl, inr, arith, Contains, Option}

module _ (s : Setting) (field : IsField s.prime) (state : State) (τ : Monomial) (bound : Monomial
    → Type 0) (basis : IsBasisBelow s state bound) (down : (σ : Monomial) → IsLess s σ τ
    → HasGenerator s σ → bound σ) where
  positive : 0 < s.prime
  positive = omega (arith, field.above_one)

  -- the difference of two canonical polynomials has no greatest word
  no_lead : (f f' : Polynomial) → IsCanonical s state.entries τ f → IsCanonical s state.entries τ f'
      → (w : Word) → IsLeadingWord s (minus s.prime f 1 f') w → ⊥
  no_lead f f' c c' w d =
      go (strike_top s c.label 1 c'.label τ positive c.labelled.leads c'.labelled.leads
      (c.labelled.one ∙ sym (ap (λ n. n % s.prime) (omega arith) ∙ c'.labelled.one)))
    where
      difference : Element
      difference = minus s.prime c.label 1 c'.label

      value : (y : Word) → coefficient (evaluation s (minus s.prime c.label 1 c'.label)) y % s.prime
          ≡ coefficient (minus s.prime f 1 f') y % s.prime
      value y =
          ap (λ n. n % s.prime) (evaluation-minus s c.label 1 c'.label y)
          ∙ (sum_mod s.prime (coefficient (evaluation s c.label) y) (coefficient f y)
          ((s.prime - 1) * 1 * coefficient (evaluation s c'.label) y)
          ((s.prime - 1) * 1 * coefficient f' y) (c.labelled.evaluates.at y)
          (times_mod s.prime ((s.prime - 1) * 1) (coefficient (evaluation s c'.label) y)
          (coefficient f' y) (c'.labelled.evaluates.at y))
          ∙ ap (λ n. n % s.prime) (sym (coefficient_polynomial_minus s f 1 f' y)))

      clash : RegularDivisor s state.entries τ w → ⊥
      clash r = both (zero_dec s.prime (coefficient f w)) (zero_dec s.prime (coefficient f' w))
        where
          both : IsZero s.prime (coefficient f w) ⊎ ¬ IsZero s.prime (coefficient f w)
              → IsZero s.prime (coefficient f' w) ⊎ ¬ IsZero s.prime (coefficient f' w) → ⊥
          both (inr n) o = c.clear w n r
          both (inl z) (inr n) = c'.clear w n r
          both (inl z) (inl y) =
              d.nonzero (subst (IsZero s.prime) (sym (coefficient_polynomial_minus s f 1 f' w))
              (zero_add s.prime (coefficient f w) ((s.prime - 1) * 1 * coefficient f' w) z
              (zero_mul_left s.prime ((s.prime - 1) * 1) (coefficient f' w) y)))

      -- a chain for the difference begins with a regular divisor
      begins : (σ : Monomial) → IsLess s σ τ → {h : Polynomial} → ReducesToZero s state.entries σ h
          → SamePolynomial s h (minus s.prime f 1 f') → ⊥
      begins σ l (ReducesToZero.done z) e = d.nonzero (sym (e.at w) ∙ z w)
      begins σ l (ReducesToZero.step {f = h} x hl v le k q rest) e =
          clash (record {
            divisor = respelled v (same_lead s h (minus s.prime f 1 f') x w e hl d);
            below = under le;
          })
        where
          under : (signature_at s state.entries x v ≡ σ)
              ⊎ IsLess s (signature_at s state.entries x v) σ
              → IsLess s (signature_at s state.entries x v) τ
          under (inl i) = subst (λ κ. IsLess s κ τ) (sym i) l
          under (inr m) =
              (monomial_laws (generator_weight s)).trans (signature_at s state.entries x v) σ τ m l

      under : (σ ρ : Monomial) → IsLess s σ τ → (ρ ≡ σ) ⊎ IsLess s ρ σ → IsLess s ρ τ
      under σ ρ l (inl i) = subst (λ κ. IsLess s κ τ) (sym i) l
      under σ ρ l (inr m) = (monomial_laws (generator_weight s)).trans ρ σ τ m l

      go : ((σ : Monomial) → IsZero s.prime
          (coefficient_by same_monomial (minus s.prime c.label 1 c'.label) σ))
          ⊎ ((σ : Monomial) × IsLess s σ τ × IsSignatureOf s (minus s.prime c.label 1 c'.label) σ)
          → ⊥
      go (inl z) = d.nonzero (sym (value w) ∙ evaluation_zero s difference z w)
      go (inr (σ, l, e)) =
          begins σ l (basis difference σ
          (λ ρ n. down ρ (under σ ρ l (below_lead same_monomial (IsLess s)
          (monomial_laws (generator_weight s)) s.prime difference σ ρ e n))
          (in_minus s c.label 1 c'.label c.labelled.lies c'.labelled.lies ρ n)) e)
          (record { at = value })

  pub canonical_unique : (f f' : Polynomial) → IsCanonical s state.entries τ f
      → IsCanonical s state.entries τ f' → SamePolynomial s f f'
  canonical_unique f f' c c' =
      record { at = λ y. go y (top same_word IsWordLess word_laws s.prime (minus s.prime f 1 f')) }
    where
      go : (y : Word) → ((w : Word) → IsZero s.prime (coefficient (minus s.prime f 1 f') w))
          ⊎ ((w : Word) × IsLeadingWord s (minus s.prime f 1 f') w)
          → coefficient f y % s.prime ≡ coefficient f' y % s.prime
      go y (inl z) =
          same_from_zero s.prime (coefficient f y) (coefficient f' y) positive
          (subst (IsZero s.prime) (coefficient_polynomial_minus s f 1 f' y ∙ omega arith) (z y))
      go y (inr (w, d)) = absurd (no_lead f f' c c' w d)

module _ (P : Problem) (field : IsField P.setting.prime) {n : ℕ} {state : State}
    {last : Option Monomial} (run : SequentialRun P n state last) where
  pub entry_canonical : (e : Entry) → Contains state.entries e
      → IsCanonical P.setting state.entries e.signature e.polynomial
  entry_canonical e k = go ((invariant P field run).sound.entries e k)
    where
      go : (α : Element) × IsLabelled P.setting e.signature e.polynomial α
          → IsCanonical P.setting state.entries e.signature e.polynomial
      go (α, l) = record { label = α; labelled = l; clear = (invariant P field run).clear e k }

  pub entry_unique : (e : Entry) → Contains state.entries e → (f : Polynomial)
      → IsCanonical P.setting state.entries e.signature f → SamePolynomial P.setting f e.polynomial
  entry_unique e k f c =
      canonical_unique P.setting field state e.signature (IsWithinReached P last)
      (enough_reached P field run).0 down f e.polynomial c (entry_canonical e k)
    where
      down : (σ : Monomial) → IsLess P.setting σ e.signature → HasGenerator P.setting σ
          → IsWithinReached P last σ
      down σ l m = (
        within_down P σ e.signature ((invariant P field run).within e k) l m,
        reached_down P last σ e.signature l ((invariant P field run).below_last e k),
      )
