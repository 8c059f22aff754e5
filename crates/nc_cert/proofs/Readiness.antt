-- The normal forms of values: the parts behind them are ready, and lines over them have the same
-- values. A part is ready if its products are words that a program can have (`line_ready`). A line
-- has the same value, as a polynomial, over the normal forms of the values before it as over the
-- values (`same_line`).
use Rattle.nc_algebra.proofs.Elements.{same_times}
use Rattle.nc_algebra.proofs.Lists.{same-append, same-refl}
use Rattle.nc_algebra.proofs.NormalForms.{normal_form_listed, normal_form_normal, normal_form_same}
use Rattle.nc_algebra.proofs.Sums.{linear_sum-scale}
use Rattle.nc_algebra.specs.Certificates.{Factor, IsFactor, IsPart, Line, Part, factor_reach, factor_value, item, line_value, part_value}
use Rattle.nc_algebra.specs.Elements.{SamePolynomial, Setting, generator}
use Rattle.nc_algebra.specs.Polynomials.{AreResidues, Polynomial, coefficient, normal_form, polynomial_times}
use Rattle.nc_algebra.specs.Settings.{IsSetting, NamedSetting}
use Rattle.nc_algebra.specs.Sums.{SameSum, is_at, scale}
use Rattle.nc_algebra.specs.Words.{Word, same_word}
use Rattle.nc_algebra.proofs.Generators.{generator_is_text}
use Rattle.nc_cert.proofs.Fits.{Fits, IsWordWithin, generator_fits, item_fits}
use Rattle.nc_cert.specs.Ready.{IsReadyPart}
use Rattle.nc_field.proofs.Primes.{listed_is_prime}
use Rattle.std.proofs.Common.{List, [], ap, arith, length, map, refl, subst, suc, sym, zero, ℕ, ◌%◌, ◌*◌, ◌+◌, ◌<◌, ◌∙◌, ◌∷◌, ◌≡◌, ◌≤◌}
use Rattle.std.proofs.Math.ListN.{get_or-map}
use Rattle.std.proofs.lemmas.List.{length-map}
use Rattle.std.proofs.lemmas.List.Elements.{All-from_recursion, recursion_from_All}
use Rattle.std.proofs.lemmas.Nat.{mul-mod_second}
use Rattle.std.specs.List.{All, AllByRecursion, AllZip}

-- the prime of a setting is greater than 1
pub above_one : (s : NamedSetting) → IsSetting s → 1 < s.setting.prime
above_one s h = (listed_is_prime s.setting.prime h.prime).above_one

pub item-normal : (p : ℕ) (values : List Polynomial) (k : ℕ)
    → item [] (map (normal_form p) values) k ≡ normal_form p (item [] values k)
unfolding normal_form
item-normal p values zero = refl
item-normal p values (suc k) = get_or-map (normal_form p) values k []

-- ---- readiness

module _ (s : NamedSetting) (is : IsSetting s) where
  -- what a part multiplies, over the normal forms
  factor_ready : (values : List Polynomial) (reaches : List ℕ) (f : Factor)
      → AllZip (Fits s.alphabet) values reaches → IsFactor s.setting (length reaches) f →
      AreResidues s.setting.prime (factor_value s.setting (map (normal_form s.setting.prime) values)
      f) × Fits s.alphabet (factor_value s.setting (map (normal_form s.setting.prime) values)
      f) (factor_reach s.setting reaches f)
  factor_ready values reaches (Factor.a_generator i) x h =
      ((generator_is_text s i is h).polynomial.normal.1, generator_fits s is i h)
  factor_ready values reaches (Factor.a_line k) x h =
      let value : Polynomial = item [] values k in
      let some : 0 < s.setting.prime = omega (arith, above_one s is) in
      subst (λ (f : Polynomial). AreResidues s.setting.prime f
      × Fits s.alphabet f (item 0 reaches k)) (sym (item-normal s.setting.prime values k)) (
        (normal_form_normal s.setting.prime value some).1,
        normal_form_listed (IsWordWithin s.alphabet (item 0 reaches k)) s.setting.prime value
            (item_fits s.alphabet values reaches k x),
      )

  short_products : (u v : Word) (f : Polynomial) (r : ℕ) → length u + r + length v ≤ 100000
      → Fits s.alphabet f r → AllByRecursion (λ t. length u + length t.key + length v ≤ 200000) f
  short_products u v [] r h x = tt
  short_products u v (t ∷ f) r h x =
      let first : IsWordWithin s.alphabet r t.key =
      x.0 in (omega (arith, first.short), short_products u v f r h x.1)

  same_many : (values : List Polynomial) (reaches : List ℕ)
      → AllZip (Fits s.alphabet) values reaches → length values ≡ length reaches
  same_many [] [] x = refl
  same_many [] (r ∷ reaches) x = absurd x
  same_many (f ∷ values) [] x = absurd x
  same_many (f ∷ values) (r ∷ reaches) x = ap suc (same_many values reaches x.1)

  part_ready : (values : List Polynomial) (reaches : List ℕ) (part : Part)
      → AllZip (Fits s.alphabet) values reaches → IsPart s reaches part
      → IsReadyPart s.setting (map (normal_form s.setting.prime) values) part
  part_ready values reaches part x h =
      let kept : List Polynomial = map (normal_form s.setting.prime) values in
      let ready = factor_ready values reaches part.of x h.factor in
      record {
        residue = h.residue;
        factor =
            subst (λ n. IsFactor s.setting n part.of)
            (sym (length-map values (normal_form s.setting.prime) ∙ same_many values reaches x))
            h.factor;
        residues = ready.0;
        short = All-from_recursion (λ t. length part.left + length t.key + length part.right
            ≤ 200000) (factor_value s.setting kept part.of)
            (short_products part.left part.right (factor_value s.setting kept part.of)
            (factor_reach s.setting reaches part.of) h.short ready.1);
      }

  parts_ready : (values : List Polynomial) (reaches : List ℕ) (line : Line)
      → AllZip (Fits s.alphabet) values reaches → AllByRecursion (IsPart s reaches) line
      → AllByRecursion (IsReadyPart s.setting (map (normal_form s.setting.prime) values)) line
  parts_ready values reaches [] x h = tt
  parts_ready values reaches (part ∷ line) x h =
      (part_ready values reaches part x h.0, parts_ready values reaches line x h.1)

  pub line_ready : (values : List Polynomial) (reaches : List ℕ) (line : Line)
      → AllZip (Fits s.alphabet) values reaches → All (IsPart s reaches) line
      → All (IsReadyPart s.setting (map (normal_form s.setting.prime) values)) line
  line_ready values reaches line x h =
      All-from_recursion (IsReadyPart s.setting (map (normal_form s.setting.prime) values)) line
      (parts_ready values reaches line x (recursion_from_All (IsPart s reaches) line h))

-- ---- values over normal forms

same-scale : (p c : ℕ) (f g : Polynomial) → SameSum same_word p f g
    → SameSum same_word p (scale c f) (scale c g)
same-scale p c f g e = record {
  at = λ x.
      ap (λ n. n % p) (linear_sum-scale (is_at same_word x) c f)
      ∙ (sym (mul-mod_second c (coefficient f x) p)
      ∙ (ap (λ n. (c * n) % p) (e.at x)
      ∙ (mul-mod_second c (coefficient g x) p
      ∙ ap (λ n. n % p) (sym (linear_sum-scale (is_at same_word x) c g)))));
}

module _ (s : Setting) (some : 0 < s.prime) (values : List Polynomial) where
  abbrev kept : List Polynomial
  kept = map (normal_form s.prime) values

  same_factor : (f : Factor) → SamePolynomial s (factor_value s kept f) (factor_value s values f)
  same_factor (Factor.a_generator i) = same-refl same_word s.prime (generator s i)
  same_factor (Factor.a_line k) =
      subst (λ (f : Polynomial). SamePolynomial s f (item [] values k))
      (sym (item-normal s.prime values k)) (normal_form_same s.prime (item [] values k))

  same_part : (part : Part) → SamePolynomial s (part_value s kept part) (part_value s values part)
  same_part part =
      same-scale s.prime part.coefficient
      (polynomial_times part.left (factor_value s kept part.of) part.right)
      (polynomial_times part.left (factor_value s values part.of) part.right)
      (same_times s part.left (factor_value s kept part.of) (factor_value s values part.of)
      part.right some (same_factor part.of))

  pub same_line : (line : Line) → SamePolynomial s (line_value s kept line)
      (line_value s values line)
  unfolding line_value
  same_line [] = same-refl same_word s.prime []
  same_line (part ∷ line) =
      same-append same_word s.prime (part_value s kept part) (part_value s values part)
      (line_value s kept line) (line_value s values line) (same_part part) (same_line line)
