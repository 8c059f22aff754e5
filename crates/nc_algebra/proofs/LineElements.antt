-- What the lines of a certificate stand for: elements over the generators, which evaluate to the
-- values of the lines.
-- Values and elements are made in the same way from those of the lines before, so evaluation takes
-- one to the other for a factor, a part, a line and all lines (`lines_evaluate`). The equations are
-- between lists: both sides list the same products in the same order. `generated_is_in` says that
-- only generators of the setting occur. `element_as_line` goes the other way: the terms of an
-- element are the parts of one line.
use Rattle.nc_algebra.proofs.Elements.{generator_dec}
use Rattle.nc_algebra.proofs.Monomials.{monomial_laws}
use Rattle.nc_algebra.proofs.Sums.{at_other, zero_number}
use Rattle.nc_algebra.specs.Certificates.{AreLines, Certificate, Factor, IsCertificate, IsPart, Line, Part, element_lines, elements_after, factor_element, factor_value, item, line_element, line_reach, line_value, lines_element, lines_value, part_element, part_value, term_part, values_after, values_of}
use Rattle.nc_algebra.specs.Elements.{Element, IsGenerator, IsIn, IsLess, Setting, element_times, evaluation, generator, generator_weight}
use Rattle.nc_algebra.specs.Laws.{CofactorLaw, ElementLines}
use Rattle.nc_algebra.specs.Monomials.{Monomial, same_monomial}
use Rattle.nc_algebra.specs.Polynomials.{Polynomial, polynomial_times}
use Rattle.nc_algebra.specs.Primes.{IsZero}
use Rattle.nc_algebra.specs.Settings.{NamedSetting}
use Rattle.nc_algebra.specs.Sums.{Term, coefficient_by, map_keys, scale, substitute}
use Rattle.nc_algebra.specs.Words.{Word}
use Rattle.std.proofs.Common.{List, [], ap, ap₂, append_assoc, arith, inl, inr, length, map, refl, subst, suc, sym, zero, ℕ, ◌*◌, ◌++◌, ◌∙◌, ◌∷◌, ◌≡◌, ◌⊎◌}
use Rattle.std.proofs.lemmas.List.{append-nil, map-append}
use Rattle.std.proofs.lemmas.List.Elements.{recursion_from_All}
use Rattle.std.proofs.Math.ListN.{get_or-map}
use Rattle.std.specs.List.{AllByRecursion}

-- ---- sums as lists

module _ {K : Type 0} where
  scale-append : (c : ℕ) (f g : List (Term K)) → scale c (f ++ g) ≡ scale c f ++ scale c g
  scale-append c [] g = refl
  scale-append c (t ∷ f) g =
      ap (λ h. record { coefficient = c * t.coefficient; key = t.key } ∷ h) (scale-append c f g)

  scale-scale : (c d : ℕ) (f : List (Term K)) → scale (c * d) f ≡ scale c (scale d f)
  scale-scale c d [] = refl
  scale-scale c d (t ∷ f) =
      ap₂ (λ (n : ℕ) (h : List (Term K)). record { coefficient = n; key = t.key } ∷ h) (omega arith)
      (scale-scale c d f)

  scale-one : (f : List (Term K)) → scale 1 f ≡ f
  scale-one [] = refl
  scale-one (t ∷ f) =
      ap₂ (λ (n : ℕ) (h : List (Term K)). record { coefficient = n; key = t.key } ∷ h) (omega arith)
      (scale-one f)

module _ {K L : Type 0} where
  map_keys-append : (φ : K → L) (f g : List (Term K))
      → map_keys φ (f ++ g) ≡ map_keys φ f ++ map_keys φ g
  map_keys-append φ [] g = refl
  map_keys-append φ (t ∷ f) g =
      ap (λ h. record { coefficient = t.coefficient; key = φ t.key } ∷ h) (map_keys-append φ f g)

  map_keys-scale : (φ : K → L) (c : ℕ) (f : List (Term K))
      → map_keys φ (scale c f) ≡ scale c (map_keys φ f)
  map_keys-scale φ c [] = refl
  map_keys-scale φ c (t ∷ f) =
      ap (λ h. record { coefficient = c * t.coefficient; key = φ t.key } ∷ h) (map_keys-scale φ c f)

  substitute-append : (φ : K → List (Term L)) (f g : List (Term K))
      → substitute (f ++ g) φ ≡ substitute f φ ++ substitute g φ
  substitute-append φ [] g = refl
  substitute-append φ (t ∷ f) g =
      ap (λ h. scale t.coefficient (φ t.key) ++ h) (substitute-append φ f g)
      ∙ sym (append_assoc (scale t.coefficient (φ t.key)) (substitute f φ) (substitute g φ))

  substitute-scale : (φ : K → List (Term L)) (c : ℕ) (f : List (Term K))
      → substitute (scale c f) φ ≡ scale c (substitute f φ)
  substitute-scale φ c [] = refl
  substitute-scale φ c (t ∷ f) =
      ap₂ (λ (g h : List (Term L)). g ++ h) (scale-scale c t.coefficient (φ t.key))
      (substitute-scale φ c f) ∙ sym (scale-append c (scale t.coefficient (φ t.key))
      (substitute f φ))

-- ---- evaluation

module _ (s : Setting) where
  moved : (u a b v : Word) (f : Polynomial)
      → polynomial_times (u ++ a) f (b ++ v) ≡ polynomial_times u (polynomial_times a f b) v
  moved u a b v [] = refl
  moved u a b v (t ∷ f) =
      ap₂ (λ (w : Word) (h : Polynomial). record { coefficient = t.coefficient; key = w } ∷ h)
      (regroup t.key) (moved u a b v f)
    where
      regroup : (x : Word) → (u ++ a) ++ (x ++ (b ++ v)) ≡ u ++ ((a ++ (x ++ b)) ++ v)
      regroup x = simp append_assoc

  evaluation-multiple : (u : Word) (α : Element) (v : Word)
      → evaluation s (element_times u α v) ≡ polynomial_times u (evaluation s α) v
  evaluation-multiple u [] v = refl
  evaluation-multiple u (t ∷ α) v =
      ap₂ (λ (g h : Polynomial). g ++ h)
      (ap (scale t.coefficient) (moved u t.key.left t.key.right v (generator s t.key.generator))
      ∙ sym (map_keys-scale (λ w. u ++ (w ++ v)) t.coefficient
      (polynomial_times t.key.left (generator s t.key.generator) t.key.right)))
      (evaluation-multiple u α v)
      ∙ sym (map_keys-append (λ w. u ++ (w ++ v))
      (scale t.coefficient (polynomial_times t.key.left (generator s t.key.generator)
      t.key.right)) (evaluation s α))

  bare : (f : Polynomial) → polynomial_times [] f [] ≡ f
  bare [] = refl
  bare (t ∷ f) =
      ap₂ (λ (w : Word) (h : Polynomial). record { coefficient = t.coefficient; key = w } ∷ h)
      (append-nil t.key) (bare f)

  -- ---- lines

  item-values : (elements : List Element) (k : ℕ)
      → item [] (map (evaluation s) elements) k ≡ evaluation s (item [] elements k)
  item-values elements zero = refl
  item-values elements (suc k) = get_or-map (evaluation s) elements k []

  factor_evaluates : (elements : List Element) (f : Factor)
      → factor_value s (map (evaluation s) elements) f ≡ evaluation s (factor_element elements f)
  factor_evaluates elements (Factor.a_generator i) =
      sym (append-nil (scale 1 (polynomial_times [] (generator s i) []))
      ∙ scale-one (polynomial_times [] (generator s i) []) ∙ bare (generator s i))
  factor_evaluates elements (Factor.a_line k) = item-values elements k

  part_evaluates : (elements : List Element) (part : Part)
      → part_value s (map (evaluation s) elements) part ≡ evaluation s (part_element elements part)
  part_evaluates elements part =
      ap (λ (f : Polynomial). scale part.coefficient (polynomial_times part.left f part.right))
      (factor_evaluates elements part.of)
      ∙ ap (scale part.coefficient) (sym (evaluation-multiple part.left
      (factor_element elements part.of) part.right))
      ∙ sym (substitute-scale (λ σ. polynomial_times σ.left (generator s σ.generator) σ.right)
      part.coefficient (element_times part.left (factor_element elements part.of) part.right))

  line_evaluates : (elements : List Element) (line : Line)
      → line_value s (map (evaluation s) elements) line ≡ evaluation s (line_element elements line)
  unfolding line_value line_element
  line_evaluates elements [] = refl
  line_evaluates elements (part ∷ line) =
      ap₂ (λ (g h : Polynomial). g ++ h) (part_evaluates elements part)
      (line_evaluates elements line)
      ∙ sym (substitute-append (λ σ. polynomial_times σ.left (generator s σ.generator) σ.right)
      (part_element elements part) (line_element elements line))

  lines_evaluate : (elements : List Element) (lines : List Line)
      → values_after s (map (evaluation s) elements) lines ≡ map (evaluation s)
      (elements_after elements lines)
  unfolding values_after elements_after
  lines_evaluate elements [] = refl
  lines_evaluate elements (line ∷ lines) =
      ap (λ (values : List Polynomial). values_after s values lines)
      (ap (λ (f : Polynomial). map (evaluation s) elements ++ f ∷ [])
      (line_evaluates elements line)
      ∙ sym (map-append (evaluation s) elements (line_element elements line ∷ [])))
      ∙ lines_evaluate (elements ++ line_element elements line ∷ []) lines

  -- the value of the last line is what its element evaluates to
  pub value_evaluates : (lines : List Line)
      → evaluation s (lines_element lines) ≡ lines_value s lines
  value_evaluates lines =
      sym (ap (λ (values : List Polynomial). item [] values (length lines))
      (lines_evaluate [] lines) ∙ item-values (elements_after [] lines) (length lines))

-- ---- generators

module _ (s : Setting) where
  -- each term's generator is one of the setting
  abbrev AreGenerated : Element → Type 0
  AreGenerated α = AllByRecursion (λ t. IsGenerator s t.key.generator) α

  generated-append : (α β : Element) → AreGenerated α → AreGenerated β → AreGenerated (α ++ β)
  generated-append [] β a b = b
  generated-append (t ∷ α) β a b = (a.0, generated-append α β a.1 b)

  generated-scale : (c : ℕ) (α : Element) → AreGenerated α → AreGenerated (scale c α)
  generated-scale c [] a = tt
  generated-scale c (t ∷ α) a = (a.0, generated-scale c α a.1)

  generated-times : (u : Word) (α : Element) (v : Word) → AreGenerated α
      → AreGenerated (element_times u α v)
  generated-times u [] v a = tt
  generated-times u (t ∷ α) v a = (a.0, generated-times u α v a.1)

  generated_item : (elements : List Element) (k : ℕ) → AllByRecursion AreGenerated elements
      → AreGenerated (item [] elements k)
  generated_item elements zero a = tt
  generated_item [] (suc k) a = tt
  generated_item (α ∷ elements) (suc zero) a = a.0
  generated_item (α ∷ elements) (suc (suc k)) a = generated_item elements (suc k) a.1

  no_coefficient : (σ : Monomial) (α : Element) → AreGenerated α → ¬ IsGenerator s σ.generator
      → coefficient_by same_monomial α σ ≡ 0
  no_coefficient σ [] a n = refl
  no_coefficient σ (t ∷ α) a n =
      omega (
        arith,
        ap (λ m. t.coefficient * m)
            (at_other same_monomial (IsLess s) (monomial_laws (generator_weight s)) σ t.key
            (λ e. n (subst (λ (τ : Monomial). IsGenerator s τ.generator) (sym e) a.0))),
        no_coefficient σ α a.1 n,
      )

  pub generated_is_in : (α : Element) → AreGenerated α → IsIn s α (λ σ. IsGenerator s σ.generator)
  generated_is_in α a σ n = go (generator_dec s σ.generator)
    where
      go : IsGenerator s σ.generator ⊎ ¬ IsGenerator s σ.generator → IsGenerator s σ.generator
      go (inl g) = g
      go (inr g) =
          absurd (n (subst (IsZero s.prime) (sym (no_coefficient σ α a g)) (zero_number s.prime)))

module _ (s : NamedSetting) where
  part_generated : (elements : List Element) (reaches : List ℕ) (part : Part)
      → AllByRecursion (AreGenerated s.setting) elements → IsPart s reaches part
      → AreGenerated s.setting (part_element elements part)
  part_generated elements reaches part a h =
      generated-scale s.setting part.coefficient _
      (generated-times s.setting part.left (factor_element elements part.of) part.right
      (by_factor part.of h.factor))
    where
      by_factor : (f : Factor) → Rattle.nc_algebra.specs.Certificates.IsFactor s.setting
          (length reaches) f → AreGenerated s.setting (factor_element elements f)
      by_factor (Factor.a_generator i) g = (g, tt)
      by_factor (Factor.a_line k) g = generated_item s.setting elements k a

  line_generated : (elements : List Element) (reaches : List ℕ) (line : Line)
      → AllByRecursion (AreGenerated s.setting) elements → AllByRecursion (IsPart s reaches) line
      → AreGenerated s.setting (line_element elements line)
  unfolding line_element
  line_generated elements reaches [] a h = tt
  line_generated elements reaches (part ∷ line) a h =
      generated-append s.setting (part_element elements part) (line_element elements line)
      (part_generated elements reaches part a h.0) (line_generated elements reaches line a h.1)

  all_pushed : (elements : List Element) (α : Element)
      → AllByRecursion (AreGenerated s.setting) elements → AreGenerated s.setting α
      → AllByRecursion (AreGenerated s.setting) (elements ++ α ∷ [])
  all_pushed [] α a h = (h, tt)
  all_pushed (β ∷ elements) α a h = (a.0, all_pushed elements α a.1 h)

  lines_generated : (elements : List Element) (reaches : List ℕ) (lines : List Line)
      → AllByRecursion (AreGenerated s.setting) elements → AreLines s reaches lines
      → AllByRecursion (AreGenerated s.setting) (elements_after elements lines)
  unfolding elements_after
  lines_generated elements reaches [] a h = a
  lines_generated elements reaches (line ∷ lines) a h =
      lines_generated (elements ++ line_element elements line ∷ [])
      (reaches ++ line_reach s.setting reaches line ∷ []) lines
      (all_pushed elements (line_element elements line) a
      (line_generated elements reaches line a
      (recursion_from_All (IsPart s reaches) line h.0))) h.1

pub cofactors : CofactorLaw
cofactors c h =
    let s = c.setting in (
      generated_is_in s.setting (lines_element c.lines)
          (generated_item s.setting (elements_after [] c.lines) (length c.lines)
          (lines_generated s [] [] c.lines tt h.lines)),
      value_evaluates s.setting c.lines,
    )

-- ---- an element as one line

terms_value : (s : Setting) (values : List Polynomial) (α : Element)
    → line_value s values (map term_part α) ≡ evaluation s α
unfolding line_value
terms_value s values [] = refl
terms_value s values (t ∷ α) =
    ap (λ (f : Polynomial). scale t.coefficient
    (polynomial_times t.key.left (generator s t.key.generator) t.key.right) ++ f)
    (terms_value s values α)

pub element_as_line : ElementLines
unfolding values_after
element_as_line s [] = refl
element_as_line s (t ∷ α) = terms_value s [] (t ∷ α)
