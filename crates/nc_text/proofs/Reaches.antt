-- How far words reach: the reaches of parts and lines as code keeps them.
-- The longest word of each generator is found once (`longest_list_more`), and the reach of a line
-- is updated with each part (`generator_reach`, `reach_more`).
use Rattle.nc_algebra.proofs.Elements.{generator_at}
use Rattle.nc_algebra.specs.Alphabets.{IsTextGenerator, IsTextWord}
use Rattle.nc_algebra.specs.Certificates.{Part, line_reach, longest, part_reach}
use Rattle.nc_algebra.specs.Elements.{IsGenerator, Setting, generator}
use Rattle.nc_algebra.specs.Polynomials.{Polynomial}
use Rattle.nc_algebra.specs.Settings.{IsSetting, NamedSetting}
use Rattle.nc_algebra.specs.Sums.{Term}
use Rattle.nc_algebra.specs.Words.{Word}
use Rattle.nc_algebra.proofs.Generators.{words_longest}
use Rattle.std.proofs.Common.{List, [], ap, ap₂, arith, get_or, length, map, max, refl, sym, take, ℕ, ◌++◌, ◌+◌, ◌-◌, ◌<◌, ◌∙◌, ◌∷◌, ◌≡◌, ◌≤◌}
use Rattle.std.proofs.lemmas.List.{get_or-map, map-append, take_all, take_more}
use Rattle.std.proofs.lemmas.List.Elements.{All-from_recursion, recursion_from_All}
use Rattle.std.specs.List.{All, AllByRecursion}

-- ---- the longest word

longest-push : (f : Polynomial) (t : Term Word)
    → longest (f ++ t ∷ []) ≡ max (length t.key) (longest f)
longest-push [] t = refl
longest-push (u ∷ f) t = ap (max (length u.key)) (longest-push f t) ∙ omega arith

pub longest_more : (f : Polynomial) (i : ℕ) (t : Term Word) (most : ℕ) → i < length f
    → t ≡ get_or f i t → most ≡ longest (take i f)
    → max (length t.key) most ≡ longest (take (i + 1) f)
longest_more f i t most within is so_far =
    ap (max (length t.key)) so_far
    ∙ sym (ap longest (take_more f i t within ∙ ap (λ (u : Term Word). take i f ++ u ∷ [])
    (sym is)) ∙ longest-push (take i f) t)

pub longest_whole : (f : Polynomial) (i : ℕ) (most : ℕ) → length f ≤ i → most ≡ longest (take i f)
    → most ≡ longest f
longest_whole f i most long so_far = so_far ∙ ap longest (take_all i f long)

pub longest_list_more : (fs : List Polynomial) (i : ℕ) (f : Polynomial) (all now : List ℕ)
    → i < length fs → f ≡ get_or fs i f → all ≡ map longest (take i fs)
    → now ≡ all ++ longest f ∷ [] → now ≡ map longest (take (i + 1) fs)
longest_list_more fs i f all now within is so_far pushed =
    pushed ∙ ap (λ (l : List ℕ). l ++ longest f ∷ []) so_far
    ∙ sym (ap (map longest) (take_more fs i f within
    ∙ ap (λ (g : Polynomial). take i fs ++ g ∷ []) (sym is))
    ∙ map-append longest (take i fs) (f ∷ []))

-- ---- parts

pub generator_reach : (s : Setting) (i : ℕ) (all : List ℕ) → all ≡ map longest s.generators
    → IsGenerator s i → get_or all (i - 1) 0 ≡ longest (generator s i)
generator_reach s i all are g =
    ap (λ (l : List ℕ). get_or l (i - 1) 0) are ∙ get_or-map longest s.generators (i - 1) [] 0
    (omega (arith, g.0, g.1)) ∙ ap longest (sym (generator_at s i g))

-- ---- lines

line_reach-push : (s : Setting) (reaches : List ℕ) (parts : List Part) (part : Part)
    → line_reach s reaches (parts ++ part ∷ []) ≡ max (part_reach s reaches part)
    (line_reach s reaches parts)
unfolding line_reach
line_reach-push s reaches [] part = refl
line_reach-push s reaches (q ∷ parts) part =
    ap (max (part_reach s reaches q)) (line_reach-push s reaches parts part)
    ∙ swapped (part_reach s reaches q) (part_reach s reaches part) (line_reach s reaches parts)
  where
    swapped : (a b c : ℕ) → max a (max b c) ≡ max b (max a c)
    swapped a b c = omega arith

pub reach_more : (s : Setting) (reaches : List ℕ) (parts : List Part) (part : Part) (far reach : ℕ)
    → far ≡ part_reach s reaches part → reach ≡ line_reach s reaches parts
    → max far reach ≡ line_reach s reaches (parts ++ part ∷ [])
reach_more s reaches parts part far reach f r =
    ap₂ max f r ∙ sym (line_reach-push s reaches parts part)

-- ---- generators

pub all_longest : (s : NamedSetting) → IsSetting s
    → All (λ m. m ≤ 100000) (map longest s.setting.generators)
all_longest s is =
    All-from_recursion (λ m. m ≤ 100000) (map longest s.setting.generators)
    (each s.setting.generators (recursion_from_All (IsTextGenerator s.alphabet s.setting.prime)
    s.setting.generators is.each))
  where
    each : (fs : List Polynomial) → AllByRecursion (IsTextGenerator s.alphabet s.setting.prime) fs
        → AllByRecursion (λ m. m ≤ 100000) (map longest fs)
    each [] h = tt
    each (f ∷ fs) h = (
      let short = words_longest s.alphabet f
          (recursion_from_All (λ t. IsTextWord s.alphabet t.key) f h.0.polynomial.words) in
          omega (arith, short),
      each fs h.1,
    )
