-- What holds of the generators of a setting: each may stand in a text, so its words are short.
use Rattle.nc_algebra.proofs.Elements.{generator_at}
use Rattle.nc_algebra.specs.Alphabets.{Alphabet, IsTextGenerator, IsTextWord}
use Rattle.nc_algebra.specs.Certificates.{longest}
use Rattle.nc_algebra.specs.Elements.{IsGenerator, generator}
use Rattle.nc_algebra.specs.Polynomials.{Polynomial}
use Rattle.nc_algebra.specs.Settings.{IsSetting, NamedSetting}
use Rattle.std.proofs.Common.{[], arith, subst, sym, ℕ, ◌-◌, ◌∷◌, ◌≤◌}
use Rattle.std.proofs.lemmas.List.Elements.{recursion_from_All}
use Rattle.std.specs.List.{AllByRecursion}

pub generator_is_text : (s : NamedSetting) (i : ℕ) → IsSetting s → IsGenerator s.setting i
    → IsTextGenerator s.alphabet s.setting.prime (generator s.setting i)
generator_is_text s i h g =
    subst (IsTextGenerator s.alphabet s.setting.prime) (sym (generator_at s.setting i g))
    (h.each (i - 1) [] (omega (arith, g.0, g.1)))

-- words of a text are short
pub words_longest : (a : Alphabet) (f : Polynomial) → AllByRecursion (λ t. IsTextWord a t.key) f
    → longest f ≤ 255
words_longest a [] h = omega arith
words_longest a (t ∷ f) h =
    let first : IsTextWord a t.key = h.0 in omega (arith, first.short, words_longest a f h.1)

-- so are those of a generator
pub generator_longest : (s : NamedSetting) (i : ℕ) → IsSetting s → IsGenerator s.setting i
    → longest (generator s.setting i) ≤ 255
generator_longest s i is g =
    words_longest s.alphabet (generator s.setting i)
    (recursion_from_All (λ t. IsTextWord s.alphabet t.key) (generator s.setting i)
    (generator_is_text s i is g).polynomial.words)
