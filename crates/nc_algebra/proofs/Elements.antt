-- Evaluation is linear, and goes well with multiples.
use Rattle.nc_algebra.proofs.Monomials.{monomial_laws, monomial_times}
use Rattle.nc_algebra.proofs.Orders.{nat_order}
use Rattle.nc_algebra.proofs.Sums.{at_other, coefficient-minus, coefficient_map_keys, leads_map_keys, linear_sum-append, linear_sum-ext, linear_sum-map_keys, linear_sum-scale, linear_sum-substitute, linear_sum_same, linear_sum_zero, top, zero_add, zero_dec, zero_from_same, zero_mul_left, zero_number, zero_rest}
use Rattle.nc_algebra.proofs.Words.{word_back, word_front, word_laws}
use Rattle.nc_algebra.specs.Elements.{Element, IsGenerator, IsIn, IsLeadingWord, IsLess, IsSignatureOf, IsZeroPolynomial, SamePolynomial, Setting, element_times, evaluation, generator, generator_weight}
use Rattle.nc_algebra.specs.Monomials.{Monomial, same_monomial, times}
use Rattle.nc_algebra.specs.Polynomials.{Polynomial, coefficient, polynomial_times}
use Rattle.nc_algebra.specs.Primes.{IsZero}
use Rattle.nc_algebra.specs.Sums.{coefficient_by, is_at, linear_sum, minus, scale}
use Rattle.nc_algebra.specs.Words.{IsWordLess, Word, same_word}
use Rattle.std.proofs.Common.{[], get_or, suc, zero, ◌≡◌, ℕ, ◌+◌, ◌-◌, ◌*◌, ◌%◌, ◌<◌, ◌⊎◌, ◌≢◌, ◌++◌, length, sym, ap, ap₂, ◌∙◌, subst, inl, inr, arith, append_assoc}

-- the coefficient at y of what a monomial evaluates to
abbrev pub image : Setting → Word → Monomial → ℕ
image s y σ = coefficient (polynomial_times σ.left (generator s σ.generator) σ.right) y

-- the generators are listed from number 1 on
pub generator_at : (s : Setting) (i : ℕ) → IsGenerator s i
    → generator s i ≡ get_or s.generators (i - 1) []
unfolding generator
generator_at s zero g = absurd (omega (arith, g.0))
generator_at s (suc i) g = ap (λ n. get_or s.generators n []) (omega arith)

module _ (s : Setting) where
  pub coefficient-evaluation : (α : Element) (y : Word)
      → coefficient (evaluation s α) y ≡ linear_sum (image s y) α
  coefficient-evaluation α y =
      linear_sum-substitute (is_at same_word y)
      (λ σ. polynomial_times σ.left (generator s σ.generator) σ.right) α

  pub evaluation-minus : (α : Element) (c : ℕ) (β : Element) (y : Word)
      → coefficient (evaluation s (minus s.prime α c β)) y ≡ coefficient (evaluation s α) y
      + (s.prime - 1) * c * coefficient (evaluation s β) y
  evaluation-minus α c β y =
      coefficient-evaluation (minus s.prime α c β) y
      ∙ (linear_sum-append (image s y) α (scale ((s.prime - 1) * c) β)
      ∙ ap₂ (λ a b. a + b) (sym (coefficient-evaluation α y))
      (linear_sum-scale (image s y) ((s.prime - 1) * c) β
      ∙ ap (λ n. (s.prime - 1) * c * n) (sym (coefficient-evaluation β y))))

  pub evaluation-times : (u : Word) (α : Element) (v : Word) (y : Word)
      → coefficient (evaluation s (element_times u α v)) y ≡ coefficient
      (polynomial_times u (evaluation s α) v) y
  evaluation-times u α v y =
      coefficient-evaluation (element_times u α v) y
      ∙ (linear_sum-map_keys (image s y) (λ σ. times u σ v) α
      ∙ (linear_sum-ext (λ σ. image s y (times u σ v))
      (λ σ. linear_sum (λ w. is_at same_word y (u ++ (w ++ v)))
      (polynomial_times σ.left (generator s σ.generator) σ.right)) α each
      ∙ sym (linear_sum-map_keys (is_at same_word y) (λ w. u ++ (w ++ v)) (evaluation s α)
      ∙ linear_sum-substitute (λ w. is_at same_word y (u ++ (w ++ v)))
      (λ σ. polynomial_times σ.left (generator s σ.generator) σ.right) α)))
    where
      regroup : (a x b : Word) → (u ++ a) ++ (x ++ (b ++ v)) ≡ u ++ ((a ++ (x ++ b)) ++ v)
      regroup a x b = simp append_assoc

      each : (σ : Monomial) → image s y (times u σ v) ≡ linear_sum
          (λ w. is_at same_word y (u ++ (w ++ v)))
          (polynomial_times σ.left (generator s σ.generator) σ.right)
      each σ =
          linear_sum-map_keys (is_at same_word y) (λ w. (u ++ σ.left) ++ (w ++ (σ.right ++ v)))
          (generator s σ.generator) ∙ (linear_sum-ext
          (λ x. is_at same_word y ((u ++ σ.left) ++ (x ++ (σ.right ++ v))))
          (λ x. is_at same_word y (u ++ ((σ.left ++ (x ++ σ.right)) ++ v)))
          (generator s σ.generator) (λ x. ap (is_at same_word y) (regroup σ.left x σ.right))
          ∙ sym (linear_sum-map_keys (λ w. is_at same_word y (u ++ (w ++ v)))
          (λ w. σ.left ++ (w ++ σ.right)) (generator s σ.generator)))

  -- equal polynomials have equal multiples
  pub same_times : (u : Word) (f g : Polynomial) (v : Word) → 0 < s.prime → SamePolynomial s f g
      → SamePolynomial s (polynomial_times u f v) (polynomial_times u g v)
  same_times u f g v h e =
      record {
        at = λ y. ap (λ n. n % s.prime)
            (linear_sum-map_keys (is_at same_word y) (λ w. u ++ (w ++ v)) f)
            ∙ (linear_sum_same same_word IsWordLess word_laws s.prime
            (λ w. is_at same_word y (u ++ (w ++ v))) f g h e
            ∙ sym (ap (λ n. n % s.prime) (linear_sum-map_keys (is_at same_word y)
            (λ w. u ++ (w ++ v))
            g)));
      }

  pub evaluation_times : (u : Word) (α : Element) (f : Polynomial) (v : Word) → 0 < s.prime
      → SamePolynomial s (evaluation s α) f
      → SamePolynomial s (evaluation s (element_times u α v)) (polynomial_times u f v)
  evaluation_times u α f v h e =
      record {
        at = λ y. ap (λ n. n % s.prime) (evaluation-times u α v y)
            ∙ (same_times u (evaluation s α) f v h e).at y;
      }

  pub evaluation_zero : (α : Element)
      → ((σ : Monomial) → IsZero s.prime (coefficient_by same_monomial α σ))
      → IsZeroPolynomial s (evaluation s α)
  evaluation_zero α z y =
      subst (IsZero s.prime) (sym (coefficient-evaluation α y))
      (linear_sum_zero same_monomial (IsLess s) (monomial_laws (generator_weight s)) s.prime
      (image s y) α (λ σ. inl (z σ)))

  pub polynomial_times_leads : (u : Word) (f : Polynomial) (v w : Word) → IsLeadingWord s f w
      → IsLeadingWord s (polynomial_times u f v) (u ++ (w ++ v))
  polynomial_times_leads u f v w d =
      leads_map_keys same_word IsWordLess word_laws same_word IsWordLess word_laws s.prime f w
      (λ x. u ++ (x ++ v)) (λ x y h. word_front u (x ++ v) (y ++ v) (word_back x y v h)) d

  pub polynomial_times_coefficient : (u : Word) (f : Polynomial) (v w : Word)
      → coefficient (polynomial_times u f v) (u ++ (w ++ v)) % s.prime ≡ coefficient f w % s.prime
  polynomial_times_coefficient u f v w =
      coefficient_map_keys same_word IsWordLess word_laws same_word IsWordLess word_laws s.prime f w
      (λ x. u ++ (x ++ v)) (λ x y h. word_front u (x ++ v) (y ++ v) (word_back x y v h))

  pub element_times_leads : (u : Word) (α : Element) (v : Word) (σ : Monomial) → IsSignatureOf s α σ
      → IsSignatureOf s (element_times u α v) (times u σ v)
  element_times_leads u α v σ d =
      leads_map_keys same_monomial (IsLess s) (monomial_laws (generator_weight s)) same_monomial
      (IsLess s) (monomial_laws (generator_weight s)) s.prime α σ (λ τ. times u τ v)
      (λ x y h. monomial_times (generator_weight s) u v x y h) d

  pub element_times_coefficient : (u : Word) (α : Element) (v : Word) (σ : Monomial)
      → coefficient_by same_monomial (element_times u α v) (times u σ v) % s.prime ≡ coefficient_by
      same_monomial α σ % s.prime
  element_times_coefficient u α v σ =
      coefficient_map_keys same_monomial (IsLess s) (monomial_laws (generator_weight s))
      same_monomial (IsLess s) (monomial_laws (generator_weight s)) s.prime α σ (λ τ. times u τ v)
      (λ x y h. monomial_times (generator_weight s) u v x y h)

  -- its generator is one of the setting
  abbrev pub HasGenerator : Monomial → Type 0
  HasGenerator σ = IsGenerator s σ.generator

  pub generator_dec : (i : ℕ) → IsGenerator s i ⊎ ¬ IsGenerator s i
  generator_dec i = go (nat_order 0 i) (nat_order i (length s.generators))
    where
      go : (0 < i) ⊎ ((0 ≡ i) ⊎ (i < 0)) → (i < length s.generators)
          ⊎ ((i ≡ length s.generators) ⊎ (length s.generators < i)) → IsGenerator s i
          ⊎ ¬ IsGenerator s i
      go (inl h) (inl k) = inl (omega arith, omega arith)
      go (inl h) (inr (inl k)) = inl (omega arith, omega arith)
      go (inl h) (inr (inr k)) = inr (λ g. omega (arith, g.0, g.1))
      go (inr (inl h)) o = inr (λ g. omega (arith, g.0, g.1))
      go (inr (inr h)) o = inr (λ g. omega (arith, g.0, g.1))

  pub in_times : (u : Word) (α : Element) (v : Word) → IsIn s α HasGenerator
      → IsIn s (element_times u α v) HasGenerator
  in_times u α v h σ n = go (generator_dec σ.generator)
    where
      other : ¬ HasGenerator σ → (τ : Monomial)
          → ¬ IsZero s.prime (coefficient_by same_monomial α τ) → σ ≢ times u τ v
      other nm τ nz e = nm (subst HasGenerator (sym e) (h τ nz))

      each : ¬ HasGenerator σ → (τ : Monomial) → IsZero s.prime (coefficient_by same_monomial α τ)
          ⊎ IsZero s.prime (is_at same_monomial σ (times u τ v))
      each nm τ =
          elim (zero_dec s.prime (coefficient_by same_monomial α τ)) [
            | inl z ↦ inl z
            | inr nz ↦ inr
                (subst (IsZero s.prime) (sym (at_other same_monomial (IsLess s)
                (monomial_laws (generator_weight s)) σ (times u τ v) (other nm τ nz)))
                (zero_number s.prime))
          ]

      go : HasGenerator σ ⊎ ¬ HasGenerator σ → HasGenerator σ
      go (inl m) = m
      go (inr nm) =
          absurd (n (subst (IsZero s.prime)
          (sym (linear_sum-map_keys (is_at same_monomial σ) (λ τ. times u τ v) α))
          (linear_sum_zero same_monomial (IsLess s) (monomial_laws (generator_weight s)) s.prime
          (λ τ. is_at same_monomial σ (times u τ v)) α (each nm))))

  pub in_minus : {set : Monomial → Type 0} (α : Element) (c : ℕ) (β : Element) → IsIn s α set
      → IsIn s β set → IsIn s (minus s.prime α c β) set
  in_minus {set} α c β h k σ n =
      go (zero_dec s.prime (coefficient_by same_monomial α σ))
      (zero_dec s.prime (coefficient_by same_monomial β σ))
    where
      go : IsZero s.prime (coefficient_by same_monomial α σ)
          ⊎ ¬ IsZero s.prime (coefficient_by same_monomial α σ)
          → IsZero s.prime (coefficient_by same_monomial β σ)
          ⊎ ¬ IsZero s.prime (coefficient_by same_monomial β σ) → set σ
      go (inr nz) o = h σ nz
      go (inl z) (inr nz) = k σ nz
      go (inl z) (inl y) =
          absurd (n (subst (IsZero s.prime)
          (sym (coefficient-minus same_monomial (IsLess s) (monomial_laws (generator_weight s))
          s.prime α c β σ)) (zero_add s.prime (coefficient_by same_monomial α σ)
          ((s.prime - 1) * c * coefficient_by same_monomial β σ) z
          (zero_mul_left s.prime ((s.prime - 1) * c) (coefficient_by same_monomial β σ) y))))

  -- a monomial less, or nothing at all, is left where the greatest monomial is struck out
  pub strike_top : (α : Element) (c : ℕ) (δ : Element) (τ : Monomial) → 0 < s.prime
      → IsSignatureOf s α τ → IsSignatureOf s δ τ → coefficient_by same_monomial α τ % s.prime ≡ c
      * coefficient_by same_monomial δ τ % s.prime
      → ((σ : Monomial) → IsZero s.prime (coefficient_by same_monomial (minus s.prime α c δ) σ))
      ⊎ ((σ : Monomial) × IsLess s σ τ × IsSignatureOf s (minus s.prime α c δ) σ)
  strike_top α c δ τ h d e q =
      go (top same_monomial (IsLess s) (monomial_laws (generator_weight s)) s.prime
      (minus s.prime α c δ))
    where
      at_top : IsZero s.prime (coefficient_by same_monomial (minus s.prime α c δ) τ)
      at_top =
          subst (IsZero s.prime) (sym (coefficient-minus same_monomial (IsLess s)
          (monomial_laws (generator_weight s)) s.prime α c δ τ ∙ omega arith))
          (zero_from_same s.prime (coefficient_by same_monomial α τ)
          (c * coefficient_by same_monomial δ τ) h q)

      over : (σ : Monomial) → IsLess s τ σ
          → IsZero s.prime (coefficient_by same_monomial (minus s.prime α c δ) σ)
      over σ l =
          subst (IsZero s.prime) (sym (coefficient-minus same_monomial (IsLess s)
          (monomial_laws (generator_weight s)) s.prime α c δ σ))
          (zero_add s.prime (coefficient_by same_monomial α σ)
          ((s.prime - 1) * c * coefficient_by same_monomial δ σ) (d.above σ l)
          (zero_mul_left s.prime ((s.prime - 1) * c) (coefficient_by same_monomial δ σ)
          (e.above σ l)))

      place : (σ : Monomial) → IsSignatureOf s (minus s.prime α c δ) σ → IsLess s σ τ
          ⊎ ((σ ≡ τ) ⊎ IsLess s τ σ) → IsLess s σ τ
      place σ f (inl l) = l
      place σ f (inr (inl i)) =
          absurd (f.nonzero (subst (λ ρ. IsZero s.prime
          (coefficient_by same_monomial (minus s.prime α c δ) ρ)) (sym i) at_top))
      place σ f (inr (inr l)) = absurd (f.nonzero (over σ l))

      go : ((σ : Monomial) → IsZero s.prime (coefficient_by same_monomial (minus s.prime α c δ) σ))
          ⊎ ((σ : Monomial) × IsSignatureOf s (minus s.prime α c δ) σ)
          → ((σ : Monomial) → IsZero s.prime (coefficient_by same_monomial (minus s.prime α c δ) σ))
          ⊎ ((σ : Monomial) × IsLess s σ τ × IsSignatureOf s (minus s.prime α c δ) σ)
      go (inl z) = inl z
      go (inr (σ, f)) = inr (σ, place σ f ((monomial_laws (generator_weight s)).total σ τ), f)

  -- taking off what has a lesser greatest monomial leaves the greatest one
  pub leads_minus : (α : Element) (c : ℕ) (β : Element) (τ σ : Monomial) → IsSignatureOf s α τ
      → IsSignatureOf s β σ → IsLess s σ τ → IsSignatureOf s (minus s.prime α c β) τ
  leads_minus α c β τ σ d e l = record {
    nonzero =
        λ z. d.nonzero (zero_rest s.prime ((s.prime - 1) * c * coefficient_by same_monomial β τ)
        (coefficient_by same_monomial α τ)
        (subst (IsZero s.prime) (coefficient-minus same_monomial (IsLess s)
        (monomial_laws (generator_weight s)) s.prime α c β τ ∙ omega arith) z)
        (zero_mul_left s.prime ((s.prime - 1) * c) (coefficient_by same_monomial β τ)
        (e.above τ l)));
    above = λ ρ h. subst (IsZero s.prime)
        (sym (coefficient-minus same_monomial (IsLess s) (monomial_laws (generator_weight s))
        s.prime α c β ρ)) (zero_add s.prime (coefficient_by same_monomial α ρ)
        ((s.prime - 1) * c * coefficient_by same_monomial β ρ) (d.above ρ h)
        (zero_mul_left s.prime ((s.prime - 1) * c) (coefficient_by same_monomial β ρ)
        (e.above ρ ((monomial_laws (generator_weight s)).trans σ τ ρ l h))));
  }
