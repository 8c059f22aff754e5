-- A word of what a module element evaluates to weighs at most the degree of the element's
-- signature. First for one monomial (`image_limited`), then for elements (`words_limited`), and so
-- for labelled polynomials (`labelled_limited`, which is the law `label_limit`).
use Rattle.nc_algebra.proofs.Elements.{coefficient-evaluation, image, polynomial_times_leads}
use Rattle.nc_algebra.proofs.Leading.{lead_leads}
use Rattle.nc_algebra.proofs.Monomials.{monomial_laws}
use Rattle.nc_algebra.proofs.Orders.{nat_order}
use Rattle.nc_algebra.proofs.Sums.{below_lead, linear_sum-map_keys, linear_sum_zero, top, zero_dec}
use Rattle.nc_algebra.proofs.Words.{lighter_less, weight-append, word_laws}
use Rattle.nc_algebra.specs.Elements.{Element, IsLabelled, IsLeadingWord, IsLess, IsSignatureOf, Setting, evaluation, generator, generator_weight}
use Rattle.nc_algebra.specs.Monomials.{Monomial, degree_of, same_monomial}
use Rattle.nc_algebra.specs.Polynomials.{Polynomial, coefficient, leading}
use Rattle.nc_algebra.specs.Primes.{IsZero}
use Rattle.nc_algebra.specs.Problems.{Bound, IsInBound, bound_degree}
use Rattle.nc_algebra.specs.Sums.{coefficient_by, is_at}
use Rattle.nc_algebra.specs.Words.{IsWordLess, Word, same_word, word_weight}
use Rattle.std.proofs.Common.{ap, arith, inl, inr, subst, sym, ◌++◌, ◌<◌, ◌∙◌, ◌≡◌, ◌≤◌, ◌⊎◌}

module _ (s : Setting) where
  -- the words of a f_i b weigh at most the degree of a [i] b
  image_limited : (σ : Monomial) (x : Word) → degree_of (generator_weight s) σ < word_weight x
      → IsZero s.prime (image s x σ)
  image_limited σ x l = go (top same_word IsWordLess word_laws s.prime (generator s σ.generator))
    where
      leads : (w : Word) → IsLeadingWord s (generator s σ.generator) w
          → IsLeadingWord s (generator s σ.generator) (leading s.prime (generator s σ.generator))
      leads w d = lead_leads s.prime (generator s σ.generator) (λ z. d.nonzero (z w))

      shorter : word_weight (σ.left ++ (leading s.prime (generator s σ.generator) ++ σ.right))
          < word_weight x
      shorter =
          omega (
            arith,
            l,
            weight-append σ.left
                (leading s.prime (generator s σ.generator) ++ σ.right),
            weight-append (leading s.prime (generator s σ.generator)) σ.right,
          )

      go : ((w : Word) → IsZero s.prime (coefficient (generator s σ.generator) w))
          ⊎ ((w : Word) × IsLeadingWord s (generator s σ.generator) w)
          → IsZero s.prime (image s x σ)
      go (inl z) =
          subst (IsZero s.prime) (sym (linear_sum-map_keys (is_at same_word x)
          (λ w. σ.left ++ (w ++ σ.right)) (generator s σ.generator)))
          (linear_sum_zero same_word IsWordLess word_laws s.prime
          (λ w. is_at same_word x (σ.left ++ (w ++ σ.right))) (generator s σ.generator)
          (λ w. inl (z w)))
      go (inr (w, d)) =
          (polynomial_times_leads s σ.left (generator s σ.generator) σ.right
          (leading s.prime (generator s σ.generator)) (leads w d)).above x
          (lighter_less _ x shorter)

  pub degrees : (σ τ : Monomial) → (σ ≡ τ) ⊎ IsLess s σ τ
      → degree_of (generator_weight s) σ ≤ degree_of (generator_weight s) τ
  degrees σ τ (inl e) =
      let d : degree_of (generator_weight s) σ ≡ degree_of (generator_weight s) τ =
      ap (degree_of (generator_weight s)) e in omega (arith, d)
  degrees σ τ (inr (inl h)) = omega arith
  degrees σ τ (inr (inr (e, h))) = omega (arith, e)

  -- no monomial within a bound has a degree beyond it
  pub degree_within : (b : Bound) (σ : Monomial) → IsInBound s b σ
      → degree_of (generator_weight s) σ ≤ bound_degree s b
  degree_within (Bound.to_degree d) σ h = h
  degree_within (Bound.under β) σ h = degrees σ β (inr h)

  pub words_limited : (α : Element) (τ : Monomial) → IsSignatureOf s α τ → (x : Word)
      → ¬ IsZero s.prime (coefficient (evaluation s α) x)
      → word_weight x ≤ degree_of (generator_weight s) τ
  words_limited α τ d x n = go (nat_order (word_weight x) (degree_of (generator_weight s) τ))
    where
      each : degree_of (generator_weight s) τ < word_weight x → (σ : Monomial)
          → IsZero s.prime (coefficient_by same_monomial α σ) ⊎ IsZero s.prime (image s x σ)
      each l σ =
          elim (zero_dec s.prime (coefficient_by same_monomial α σ)) [
            | inl z ↦ inl z
            | inr nz ↦ inr
                (image_limited σ x (let k : degree_of (generator_weight s) σ
                ≤ degree_of (generator_weight s) τ = degrees σ τ
                (below_lead same_monomial (IsLess s) (monomial_laws (generator_weight s)) s.prime α
                τ σ d nz) in omega arith))
          ]

      go : (word_weight x < degree_of (generator_weight s) τ)
          ⊎ ((word_weight x ≡ degree_of (generator_weight s) τ)
          ⊎ (degree_of (generator_weight s) τ < word_weight x))
          → word_weight x ≤ degree_of (generator_weight s) τ
      go (inl h) = omega arith
      go (inr (inl h)) = omega (arith, h)
      go (inr (inr h)) =
          absurd (n (subst (IsZero s.prime) (sym (coefficient-evaluation s α x))
          (linear_sum_zero same_monomial (IsLess s) (monomial_laws (generator_weight s)) s.prime
          (image s x) α (each h))))

  -- so each word of a labelled polynomial weighs at most its signature's degree
  pub labelled_limited : (τ : Monomial) (f : Polynomial) (α : Element) → IsLabelled s τ f α
      → (x : Word) → ¬ IsZero s.prime (coefficient f x)
      → word_weight x ≤ degree_of (generator_weight s) τ
  labelled_limited τ f α l x n = words_limited α τ l.leads x (λ z. n (sym (l.evaluates.at x) ∙ z))
