-- What holds of the generators of a setting.
-- A generator is in normal form, so its weight is that of its first word (`weight_first`), and at
-- most 25,500 (`generator_weighs`).
use Rattle.nc_algebra.proofs.Alphabets.{text_word_light}
use Rattle.nc_algebra.proofs.Elements.{generator_at}
use Rattle.nc_algebra.proofs.Generators.{generator_is_text}
use Rattle.nc_algebra.proofs.Leading.{leading-normal}
use Rattle.nc_algebra.specs.Alphabets.{IsTextGenerator, IsTextWord}
use Rattle.nc_algebra.specs.Settings.{IsSetting, NamedSetting}
use Rattle.nc_algebra.specs.Elements.{IsGenerator, generator, generator_weight}
use Rattle.nc_algebra.specs.Polynomials.{IsNormal, Polynomial, leading}
use Rattle.nc_algebra.specs.Sums.{Term}
use Rattle.nc_algebra.specs.Words.{Word, word_weight}
use Rattle.std.proofs.Common.{[], ap, arith, get_or, refl, subst, sym, ℕ, ◌-◌, ◌∙◌, ◌∷◌, ◌≡◌, ◌≤◌}
use Rattle.std.proofs.lemmas.List.{get_or_read}
use Rattle.std.proofs.lemmas.List.Elements.{recursion_from_All}
use Rattle.std.specs.List.{All}

-- the generator that code reads
pub generator_read : (s : NamedSetting) (i : ℕ) (f : Polynomial) → IsGenerator s.setting i
    → f ≡ get_or s.setting.generators (i - 1) f → f ≡ generator s.setting i
generator_read s i f h e =
    get_or_read s.setting.generators (i - 1) f (omega (arith, h.0, h.1)) e []
    ∙ sym (generator_at s.setting i h)

-- its weight is that of its first word
pub weight_first : (s : NamedSetting) (i : ℕ) (t : Term Word) (f : Polynomial)
    → IsTextGenerator s.alphabet s.setting.prime (generator s.setting i)
    → generator s.setting i ≡ t ∷ f → generator_weight s.setting i ≡ word_weight t.key
weight_first s i t f h e =
    ap word_weight (ap (leading s.setting.prime) e
    ∙ leading-normal s.setting.prime t f (subst (IsNormal s.setting.prime) e h.polynomial.normal))

pub first_is_short : (s : NamedSetting) (i : ℕ) (t : Term Word) (f : Polynomial) → IsSetting s
    → IsTextGenerator s.alphabet s.setting.prime (generator s.setting i)
    → generator s.setting i ≡ t ∷ f → word_weight t.key ≤ 25500
first_is_short s i t f is h e =
    let words =
    recursion_from_All (λ u. IsTextWord s.alphabet u.key) (t ∷ f)
    (subst (λ (g : Polynomial). All (λ u. IsTextWord s.alphabet u.key) g) e h.polynomial.words)
    in
    let first : IsTextWord s.alphabet t.key = words.0 in
    text_word_light s.alphabet is.alphabet t.key first

-- so a generator weighs at most 25,500
pub generator_weighs : (s : NamedSetting) (i : ℕ) → IsSetting s → IsGenerator s.setting i
    → generator_weight s.setting i ≤ 25500
generator_weighs s i is g = by_terms (generator s.setting i) refl
  where
    text : IsTextGenerator s.alphabet s.setting.prime (generator s.setting i)
    text = generator_is_text s i is g

    by_terms : (f : Polynomial) → generator s.setting i ≡ f → generator_weight s.setting i ≤ 25500
    by_terms [] e = absurd (text.nonzero e)
    by_terms (t ∷ f) e =
        omega (arith, weight_first s i t f text e, first_is_short s i t f is text e)
