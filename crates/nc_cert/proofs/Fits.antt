-- The words of values: over the alphabet, and no longer than the reach.
-- `lines_fit` is the induction on lines. The rule of certificates bounds the reach by 100,000, so
-- no word is longer; a normal form lists only words of the value.
use Rattle.nc_algebra.proofs.Generators.{generator_is_text}
use Rattle.nc_algebra.specs.Alphabets.{Alphabet, IsLetterIn, IsTextWord, IsWordIn}
use Rattle.nc_algebra.specs.Certificates.{AreLines, Factor, IsFactor, IsPart, Line, Part, factor_reach, factor_value, item, line_reach, line_value, longest, part_reach, part_value, values_after}
use Rattle.nc_algebra.specs.Elements.{IsGenerator, generator}
use Rattle.nc_algebra.specs.Polynomials.{Polynomial, polynomial_times}
use Rattle.nc_algebra.specs.Settings.{IsSetting, NamedSetting}
use Rattle.nc_algebra.specs.Sums.{scale}
use Rattle.nc_algebra.specs.Words.{Word}
use Rattle.nc_cert.proofs.Lines.{reaches_after}
use Rattle.std.proofs.Common.{List, [], arith, length, suc, zero, ℕ, ◌++◌, ◌+◌, ◌-◌, ◌∷◌, ◌≤◌}
use Rattle.std.proofs.lemmas.List.{length-append}
use Rattle.std.proofs.lemmas.List.Elements.{All-append, recursion_from_All}
use Rattle.std.specs.List.{AllByRecursion, AllZip}

-- a word over the alphabet with at most so many letters
pub record IsWordWithin (a : Alphabet) (r : ℕ) (w : Word) : Type 0 where
  pub letters : IsWordIn a w
  pub short : length w ≤ r

-- each word of f is such
abbrev pub Fits : Alphabet → Polynomial → ℕ → Type 0
Fits a f r = AllByRecursion (λ t. IsWordWithin a r t.key) f

module _ (a : Alphabet) where
  fits_more : (f : Polynomial) (r q : ℕ) → r ≤ q → Fits a f r → Fits a f q
  fits_more [] r q h x = tt
  fits_more (t ∷ f) r q h x =
      let first : IsWordWithin a r t.key =
      x.0 in (
        record { letters = first.letters; short = omega (arith, first.short) },
        fits_more f r q h x.1,
      )

  fits-append : (f g : Polynomial) (r : ℕ) → Fits a f r → Fits a g r → Fits a (f ++ g) r
  fits-append [] g r x y = y
  fits-append (t ∷ f) g r x y = (x.0, fits-append f g r x.1 y)

  fits-scale : (c : ℕ) (f : Polynomial) (r : ℕ) → Fits a f r → Fits a (scale c f) r
  fits-scale c [] r x = tt
  fits-scale c (t ∷ f) r x = (x.0, fits-scale c f r x.1)

  fits-times : (u v : Word) (f : Polynomial) (r q : ℕ) → IsWordIn a u → IsWordIn a v
      → length u + r + length v ≤ q → Fits a f r → Fits a (polynomial_times u f v) q
  fits-times u v [] r q hu hv h x = tt
  fits-times u v (t ∷ f) r q hu hv h x =
      let first : IsWordWithin a r t.key = x.0 in (
        record {
          letters =
              All-append (IsLetterIn a) u (t.key ++ v) hu
              (All-append (IsLetterIn a) t.key v first.letters hv);
          short = omega (arith, length-append u (t.key ++ v), length-append t.key v, first.short);
        },
        fits-times u v f r q hu hv h x.1,
      )

  longest_fits : (f : Polynomial) → AllByRecursion (λ t. IsTextWord a t.key) f
      → Fits a f (longest f)
  longest_fits [] x = tt
  longest_fits (t ∷ f) x =
      let first : IsTextWord a t.key =
      x.0 in (
        record { letters = first.letters; short = omega arith },
        fits_more f (longest f) (longest (t ∷ f)) (omega arith) (longest_fits f x.1),
      )

  pub item_fits : (values : List Polynomial) (reaches : List ℕ) (k : ℕ)
      → AllZip (Fits a) values reaches → Fits a (item [] values k) (item 0 reaches k)
  item_fits values reaches zero x = tt
  item_fits [] reaches (suc k) x = tt
  item_fits (f ∷ values) [] (suc k) x = absurd x
  item_fits (f ∷ values) (r ∷ reaches) (suc zero) x = x.0
  item_fits (f ∷ values) (r ∷ reaches) (suc (suc k)) x = item_fits values reaches (suc k) x.1

  all_fit-push : (values : List Polynomial) (reaches : List ℕ) (f : Polynomial) (r : ℕ)
      → AllZip (Fits a) values reaches → Fits a f r
      → AllZip (Fits a) (values ++ f ∷ []) (reaches ++ r ∷ [])
  all_fit-push [] [] f r x y = (y, tt)
  all_fit-push [] (q ∷ reaches) f r x y = absurd x
  all_fit-push (g ∷ values) [] f r x y = absurd x
  all_fit-push (g ∷ values) (q ∷ reaches) f r x y = (x.0, all_fit-push values reaches f r x.1 y)

module _ (s : NamedSetting) (is : IsSetting s) where
  pub generator_fits : (i : ℕ) → IsGenerator s.setting i
      → Fits s.alphabet (generator s.setting i) (longest (generator s.setting i))
  generator_fits i g =
      longest_fits s.alphabet (generator s.setting i)
      (recursion_from_All (λ t. IsTextWord s.alphabet t.key) (generator s.setting i)
      (generator_is_text s i is g).polynomial.words)

  factor_fits : (values : List Polynomial) (reaches : List ℕ) (f : Factor)
      → AllZip (Fits s.alphabet) values reaches → IsFactor s.setting (length reaches) f
      → Fits s.alphabet (factor_value s.setting values f) (factor_reach s.setting reaches f)
  factor_fits values reaches (Factor.a_generator i) x h = generator_fits i h
  factor_fits values reaches (Factor.a_line k) x h = item_fits s.alphabet values reaches k x

  part_fits : (values : List Polynomial) (reaches : List ℕ) (part : Part)
      → AllZip (Fits s.alphabet) values reaches → IsPart s reaches part
      → Fits s.alphabet (part_value s.setting values part) (part_reach s.setting reaches part)
  part_fits values reaches part x h =
      fits-scale s.alphabet part.coefficient
      (polynomial_times part.left (factor_value s.setting values part.of) part.right)
      (part_reach s.setting reaches part)
      (fits-times s.alphabet part.left part.right (factor_value s.setting values part.of)
      (factor_reach s.setting reaches part.of) (part_reach s.setting reaches part) h.left
      h.right (omega arith) (factor_fits values reaches part.of x h.factor))

  pub line_fits : (values : List Polynomial) (reaches : List ℕ) (line : Line)
      → AllZip (Fits s.alphabet) values reaches → AllByRecursion (IsPart s reaches) line
      → Fits s.alphabet (line_value s.setting values line) (line_reach s.setting reaches line)
  unfolding line_value line_reach
  line_fits values reaches [] x h = tt
  line_fits values reaches (part ∷ line) x h =
      let most : ℕ = line_reach s.setting reaches (part ∷ line) in
      fits-append s.alphabet (part_value s.setting values part) (line_value s.setting values line)
      most
      (fits_more s.alphabet (part_value s.setting values part) (part_reach s.setting reaches part)
      most (omega arith) (part_fits values reaches part x h.0))
      (fits_more s.alphabet (line_value s.setting values line) (line_reach s.setting reaches line)
      most (omega arith) (line_fits values reaches line x h.1))

  -- the values of lines have no words longer than their reaches
  pub lines_fit : (values : List Polynomial) (reaches : List ℕ) (lines : List Line)
      → AllZip (Fits s.alphabet) values reaches → AreLines s reaches lines
      → AllZip (Fits s.alphabet) (values_after s.setting values lines)
      (reaches_after s.setting reaches lines)
  unfolding values_after reaches_after
  lines_fit values reaches [] x h = x
  lines_fit values reaches (line ∷ lines) x h =
      lines_fit (values ++ line_value s.setting values line ∷ [])
      (reaches ++ line_reach s.setting reaches line ∷ []) lines
      (all_fit-push s.alphabet values reaches (line_value s.setting values line)
      (line_reach s.setting reaches line) x
      (line_fits values reaches line x (recursion_from_All (IsPart s reaches) line h.0))) h.1
