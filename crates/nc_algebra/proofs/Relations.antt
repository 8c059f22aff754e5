-- Each syzygy signature is that of a module element that evaluates to zero.
use Rattle.nc_algebra.proofs.Elements.{HasGenerator, coefficient-evaluation, element_times_leads, evaluation-minus, evaluation_times, generator_dec, image, in_minus, in_times, leads_minus}
use Rattle.nc_algebra.proofs.Monomials.{monomial_laws, monomial_left, monomial_right}
use Rattle.nc_algebra.proofs.Sums.{leads_substitute, linear_sum-ext, linear_sum-map_keys, linear_sum-substitute, linear_sum_cong, linear_sum_swap, linear_sum_zero, zero_dec, zero_from_same}
use Rattle.nc_algebra.proofs.Words.{word_back, word_front, word_laws}
use Rattle.nc_algebra.specs.Elements.{Element, IsIn, IsLabelled, IsLeadingWord, IsLess, IsSignatureOf, IsZeroPolynomial, SamePolynomial, Setting, element_times, evaluation, generator_weight}
use Rattle.nc_algebra.specs.Monomials.{Monomial, same_monomial, times}
use Rattle.nc_algebra.specs.Polynomials.{Polynomial, coefficient, polynomial_times}
use Rattle.nc_algebra.specs.Primes.{IsField, IsZero}
use Rattle.nc_algebra.specs.Sums.{coefficient_by, is_at, linear_sum, minus, substitute}
use Rattle.nc_algebra.specs.Words.{IsWordLess, Word, same_word}
use Rattle.std.proofs.Common.{◌≡◌, ◌%◌, ◌<◌, ◌⊎◌, [], ◌++◌, sym, ap, ◌∙◌, subst, inl, inr, arith, append_assoc, append-nil}

-- a module element that evaluates to zero, with signature ρ
pub record Relation (s : Setting) (ρ : Monomial) : Type 0 where
  pub element : Element
  pub lies : IsIn s element (HasGenerator s)
  pub leads : IsSignatureOf s element ρ
  pub vanishes : IsZeroPolynomial s (evaluation s element)

module _ (s : Setting) where
  evaluation-substitute : (g : Polynomial) (φ : Word → Element) (y : Word)
      → coefficient (evaluation s (substitute g φ)) y ≡ linear_sum
      (λ w. coefficient (evaluation s (φ w)) y) g
  evaluation-substitute g φ y =
      coefficient-evaluation s (substitute g φ) y
      ∙ (linear_sum-substitute (image s y) φ g ∙ linear_sum-ext (λ w. linear_sum (image s y) (φ w))
      (λ w. coefficient (evaluation s (φ w)) y) g (λ w. sym (coefficient-evaluation s (φ w) y)))

  in_substitute : (g : Polynomial) (φ : Word → Element)
      → ((w : Word) → IsIn s (φ w) (HasGenerator s)) → IsIn s (substitute g φ) (HasGenerator s)
  in_substitute g φ h σ n = go (generator_dec s σ.generator)
    where
      each : ¬ HasGenerator s σ → (w : Word) → IsZero s.prime (coefficient_by same_monomial (φ w) σ)
      each nm w =
          elim (zero_dec s.prime (coefficient_by same_monomial (φ w) σ))
          [ inl z ↦ z | inr nz ↦ absurd (nm (h w σ nz)) ]

      go : HasGenerator s σ ⊎ ¬ HasGenerator s σ → HasGenerator s σ
      go (inl m) = m
      go (inr nm) =
          absurd (n (subst (IsZero s.prime)
          (sym (linear_sum-substitute (is_at same_monomial σ) φ g))
          (linear_sum_zero same_word IsWordLess word_laws s.prime
          (λ w. coefficient_by same_monomial (φ w) σ) g (λ w. inr (each nm w)))))

  -- the one side of a trivial syzygy: a label times the words of the other polynomial
  abbrev right_side : Element → Word → Polynomial → Element
  right_side α m g = substitute g (λ w. element_times [] α (m ++ w))

  abbrev left_side : Polynomial → Word → Element → Element
  left_side g m α = substitute g (λ w. element_times (w ++ m) α [])

  right_leads : IsField s.prime → (α : Element) (σ : Monomial) (m : Word) (g : Polynomial)
      (w : Word) → IsSignatureOf s α σ → IsLeadingWord s g w
      → IsSignatureOf s (right_side α m g) (times [] σ (m ++ w))
  right_leads field α σ m g w d e =
      leads_substitute same_word IsWordLess word_laws same_monomial (IsLess s)
      (monomial_laws (generator_weight s)) s.prime field g w (λ w. element_times [] α (m ++ w))
      (λ w. times [] σ (m ++ w)) (λ x y h. monomial_right (generator_weight s) [] (m ++ x) (m ++ y)
      σ (word_front m x y h)) (λ x. element_times_leads s [] α (m ++ x) σ d) e

  left_leads : IsField s.prime → (g : Polynomial) (w : Word) (m : Word) (α : Element) (σ : Monomial)
      → IsLeadingWord s g w → IsSignatureOf s α σ
      → IsSignatureOf s (left_side g m α) (times (w ++ m) σ [])
  left_leads field g w m α σ e d =
      leads_substitute same_word IsWordLess word_laws same_monomial (IsLess s)
      (monomial_laws (generator_weight s)) s.prime field g w (λ w. element_times (w ++ m) α [])
      (λ w. times (w ++ m) σ []) (λ x y h. monomial_left (generator_weight s) (x ++ m) (y ++ m) [] σ
      (word_back x y m h)) (λ x. element_times_leads s (x ++ m) α [] σ d) e

  -- both sides evaluate to g m g'
  sides_agree : 0 < s.prime → (g g' : Polynomial) (α α' : Element) (m : Word)
      → SamePolynomial s (evaluation s α) g → SamePolynomial s (evaluation s α') g'
      → SamePolynomial s (evaluation s (right_side α m g')) (evaluation s (left_side g m α'))
  sides_agree pos g g' α α' m e e' = record { at = λ y. side y }
    where
      right : (y : Word) → coefficient (evaluation s (right_side α m g')) y % s.prime ≡ linear_sum
          (λ w. linear_sum (λ x. is_at same_word y ([] ++ (x ++ (m ++ w)))) g) g' % s.prime
      right y =
          ap (λ n. n % s.prime) (evaluation-substitute g' (λ w. element_times [] α (m ++ w)) y)
          ∙ (linear_sum_cong same_word IsWordLess word_laws s.prime
          (λ w. coefficient (evaluation s (element_times [] α (m ++ w))) y)
          (λ w. coefficient (polynomial_times [] g (m ++ w)) y) g' pos
          (λ w. (evaluation_times s [] α g (m ++ w) pos e).at y)
          ∙ ap (λ n. n % s.prime) (linear_sum-ext
          (λ w. coefficient (polynomial_times [] g (m ++ w)) y)
          (λ w. linear_sum (λ x. is_at same_word y ([] ++ (x ++ (m ++ w)))) g) g'
          (λ w. linear_sum-map_keys (is_at same_word y) (λ x. [] ++ (x ++ (m ++ w))) g)))

      left : (y : Word) → coefficient (evaluation s (left_side g m α')) y % s.prime ≡ linear_sum
          (λ x. linear_sum (λ w. is_at same_word y ((x ++ m) ++ (w ++ []))) g') g % s.prime
      left y =
          ap (λ n. n % s.prime) (evaluation-substitute g (λ x. element_times (x ++ m) α' []) y)
          ∙ (linear_sum_cong same_word IsWordLess word_laws s.prime
          (λ x. coefficient (evaluation s (element_times (x ++ m) α' [])) y)
          (λ x. coefficient (polynomial_times (x ++ m) g' []) y) g pos
          (λ x. (evaluation_times s (x ++ m) α' g' [] pos e').at y)
          ∙ ap (λ n. n % s.prime) (linear_sum-ext
          (λ x. coefficient (polynomial_times (x ++ m) g' []) y)
          (λ x. linear_sum (λ w. is_at same_word y ((x ++ m) ++ (w ++ []))) g') g
          (λ x. linear_sum-map_keys (is_at same_word y) (λ w. (x ++ m) ++ (w ++ [])) g')))

      regroup : (x w : Word) → [] ++ (x ++ (m ++ w)) ≡ (x ++ m) ++ (w ++ [])
      regroup x w = simp (append_assoc, append-nil)

      middle : (y : Word) → linear_sum
          (λ w. linear_sum (λ x. is_at same_word y ([] ++ (x ++ (m ++ w)))) g) g' ≡ linear_sum
          (λ x. linear_sum (λ w. is_at same_word y ((x ++ m) ++ (w ++ []))) g') g
      middle y =
          linear_sum-ext (λ w. linear_sum (λ x. is_at same_word y ([] ++ (x ++ (m ++ w)))) g)
          (λ w. linear_sum (λ x. is_at same_word y ((x ++ m) ++ (w ++ []))) g) g'
          (λ w. linear_sum-ext (λ x. is_at same_word y ([] ++ (x ++ (m ++ w))))
          (λ x. is_at same_word y ((x ++ m) ++ (w ++ []))) g
          (λ x. ap (is_at same_word y) (regroup x w)))
          ∙ linear_sum_swap (λ w x. is_at same_word y ((x ++ m) ++ (w ++ []))) g' g

      side : (y : Word) → coefficient (evaluation s (right_side α m g')) y % s.prime ≡ coefficient
          (evaluation s (left_side g m α')) y % s.prime
      side y = right y ∙ (ap (λ n. n % s.prime) (middle y) ∙ sym (left y))

  difference_vanishes : 0 < s.prime → (α β : Element)
      → SamePolynomial s (evaluation s α) (evaluation s β)
      → IsZeroPolynomial s (evaluation s (minus s.prime α 1 β))
  difference_vanishes pos α β e y =
      subst (IsZero s.prime) (sym (evaluation-minus s α 1 β y ∙ omega arith))
      (zero_from_same s.prime (coefficient (evaluation s α) y) (coefficient (evaluation s β) y) pos
      (e.at y))

  -- the relation behind a trivial signature
  pub trivial_relation : IsField s.prime
      → (ρ : Monomial) (g g' : Polynomial) (w w' : Word) (σ σ' : Monomial) (α α' : Element)
      (m : Word) → IsLeadingWord s g w → IsLeadingWord s g' w' → IsLabelled s σ g α
      → IsLabelled s σ' g' α' → (IsLess s (times (w ++ m) σ' []) (times [] σ (m ++ w'))
      × (ρ ≡ times [] σ (m ++ w'))) ⊎ (IsLess s (times [] σ (m ++ w')) (times (w ++ m) σ' [])
      × (ρ ≡ times (w ++ m) σ' [])) → Relation s ρ
  trivial_relation field ρ g g' w w' σ σ' α α' m d d' l l' (inl (less, is)) = record {
    element = minus s.prime (right_side α m g') 1 (left_side g m α');
    lies = in_minus s (right_side α m g') 1 (left_side g m α')
        (in_substitute g' (λ w. element_times [] α (m ++ w)) (λ w. in_times s [] α (m ++ w) l.lies))
        (in_substitute g (λ w. element_times (w ++ m) α' [])
        (λ w. in_times s (w ++ m) α' [] l'.lies));
    leads = subst (IsSignatureOf s (minus s.prime (right_side α m g') 1 (left_side g m α')))
        (sym is) (leads_minus s (right_side α m g') 1 (left_side g m α') (times [] σ (m ++ w'))
        (times (w ++ m) σ' []) (right_leads field α σ m g' w' l.leads d')
        (left_leads field g w m α' σ' d l'.leads) less);
    vanishes =
        difference_vanishes (omega (arith, field.above_one)) (right_side α m g') (left_side g m α')
        (sides_agree (omega (arith, field.above_one)) g g' α α' m l.evaluates l'.evaluates);
  }
  trivial_relation field ρ g g' w w' σ σ' α α' m d d' l l' (inr (less, is)) = record {
    element = minus s.prime (left_side g m α') 1 (right_side α m g');
    lies = in_minus s (left_side g m α') 1 (right_side α m g')
        (in_substitute g (λ w. element_times (w ++ m) α' [])
        (λ w. in_times s (w ++ m) α' [] l'.lies))
        (in_substitute g' (λ w. element_times [] α (m ++ w))
        (λ w. in_times s [] α (m ++ w) l.lies));
    leads = subst (IsSignatureOf s (minus s.prime (left_side g m α') 1 (right_side α m g')))
        (sym is) (leads_minus s (left_side g m α') 1 (right_side α m g') (times (w ++ m) σ' [])
        (times [] σ (m ++ w')) (left_leads field g w m α' σ' d l'.leads)
        (right_leads field α σ m g' w' l.leads d') less);
    vanishes =
        difference_vanishes (omega (arith, field.above_one)) (left_side g m α') (right_side α m g')
        (record {
          at = λ y. sym ((sides_agree (omega (arith, field.above_one)) g g' α α' m
              l.evaluates l'.evaluates).at y);
        });
  }
