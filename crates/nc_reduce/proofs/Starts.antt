-- The polynomial of a start: its words are small, and it is in normal form.
use Rattle.nc_algebra.specs.Alphabets.{IsTextGenerator}
use Rattle.nc_algebra.specs.Elements.{IsGenerator, Setting, generator}
use Rattle.nc_algebra.specs.Monomials.{Monomial}
use Rattle.nc_algebra.specs.Polynomials.{AreResidues, IsNormal, Polynomial, polynomial_times}
use Rattle.nc_algebra.specs.Settings.{IsSetting, NamedSetting}
use Rattle.nc_algebra.specs.Words.{Word}
use Rattle.nc_algebra.proofs.Generators.{generator_is_text}
use Rattle.nc_poly.proofs.Shifts.{shifted_descends}
use Rattle.nc_reduce.specs.Starts.{IsReadable, IsStartAt, polynomial_of, start_polynomial}
use Rattle.nc_theory.proofs.Handling.{text_words}
use Rattle.nc_theory.proofs.Multiples.{shifted_few, shifted_small}
use Rattle.nc_theory.proofs.Small.{usable_at}
use Rattle.nc_theory.specs.Usable.{HasSmallWords, IsUsable, IsUsableSignature}
use Rattle.nc_theory.specs.States.{Entry, Start}
use Rattle.std.proofs.Common.{List, Some, [], ap, arith, length, map, subst, sym, suc, zero, ℕ, ◌+◌, ◌-◌, ◌<◌, ◌∙◌, ◌∷◌, ◌≡◌, ◌≤◌}
use Rattle.std.proofs.lemmas.List.Elements.{All-from_recursion, recursion_from_All}
use Rattle.std.proofs.lemmas.Option.{get_or_from_slice_get, slice_get-map, slice_get_within}
use Rattle.std.specs.List.{All, AllByRecursion, slice_get}
use Rattle.std.specs.Option.{option_map}

-- the entry that code reads
pub polynomial_at : (entries : List Entry) (j : ℕ) (e : Entry) → 1 ≤ j
    → slice_get entries (j - 1) ≡ Some e → polynomial_of entries j ≡ e.polynomial
polynomial_at entries zero e h at = absurd (omega (arith, h))
polynomial_at entries (suc i) e h at =
    let same : suc i - 1 ≡ i = omega arith in
    let here : slice_get entries i ≡ Some e = subst (λ k. slice_get entries k ≡ Some e) same at in
    get_or_from_slice_get (map (λ (x : Entry). x.polynomial) entries) i e.polynomial []
    (slice_get-map (λ (x : Entry). x.polynomial) entries i
    ∙ ap (option_map (λ (x : Entry). x.polynomial)) here)

-- ---- a generator

module _ (s : NamedSetting) (is : IsSetting s) (i : ℕ) (valid : IsGenerator s.setting i) where
  text : IsTextGenerator s.alphabet s.setting.prime (generator s.setting i)
  text = generator_is_text s i is valid

  generator_small : HasSmallWords s.setting (generator s.setting i)
  generator_small =
      text_words s.alphabet is.alphabet s.setting (generator s.setting i) text.polynomial.words

-- ---- a multiple of an entry

module _ (s : Setting) (u v : Word) (e : Entry) (usable : IsUsable s e) where
  shifted_residues : AreResidues s.prime (polynomial_times u e.polynomial v)
  shifted_residues =
      All-from_recursion (λ t. t.coefficient < s.prime) (polynomial_times u e.polynomial v)
      (go e.polynomial (recursion_from_All (λ t. t.coefficient < s.prime) e.polynomial
      usable.normal.1))
    where
      go : (f : Polynomial) → AllByRecursion (λ t. t.coefficient < s.prime) f
          → AllByRecursion (λ t. t.coefficient < s.prime) (polynomial_times u f v)
      go [] a = tt
      go (t ∷ f) a = (a.0, go f a.1)

  shifted_normal : IsNormal s.prime (polynomial_times u e.polynomial v)
  shifted_normal = (shifted_descends u v e.polynomial usable.normal.0, shifted_residues)

-- ---- either

module _ (s : NamedSetting) (is : IsSetting s) (entries : List Entry)
    (usable : All (IsUsable s.setting) entries) (τ : Monomial)
    (limit : IsUsableSignature s.setting τ) where
  pub start_readable : (start : Start) → IsStartAt s.setting entries τ start
      → IsReadable s.setting entries start
  start_readable (Start.a_generator i) h = h.0
  start_readable (Start.a_multiple u j v) (e, some, at, signed) = (
    some,
    omega (arith, some, slice_get_within entries (j - 1) e at),
    subst (λ (f : Polynomial). All (λ t. length u + length t.key + length v ≤ 200000) f)
        (sym (polynomial_at entries j e some at))
        (shifted_few s.setting τ limit u v e (usable_at s.setting entries usable (j - 1) e at)
        signed),
  )

  pub start_normal : (start : Start) → IsStartAt s.setting entries τ start
      → IsNormal s.setting.prime (start_polynomial s.setting entries start)
  start_normal (Start.a_generator i) h = (text s is i h.0).polynomial.normal
  start_normal (Start.a_multiple u j v) (e, some, at, signed) =
      subst (λ (f : Polynomial). IsNormal s.setting.prime (polynomial_times u f v))
      (sym (polynomial_at entries j e some at))
      (shifted_normal s.setting u v e (usable_at s.setting entries usable (j - 1) e at))

  pub start_small : (start : Start) → IsStartAt s.setting entries τ start
      → HasSmallWords s.setting (start_polynomial s.setting entries start)
  start_small (Start.a_generator i) h = generator_small s is i h.0
  start_small (Start.a_multiple u j v) (e, some, at, signed) =
      subst (λ (f : Polynomial). HasSmallWords s.setting (polynomial_times u f v))
      (sym (polynomial_at entries j e some at))
      (shifted_small s.setting τ limit u v e (usable_at s.setting entries usable (j - 1) e at)
      signed)
