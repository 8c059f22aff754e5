-- The words of a program's run are over its alphabet.
-- Each generator is over the letters of the alphabet (`generator_over`), so the laws on letters
-- apply to them. A term of a normal form has a coefficient other than zero, so its word is among
-- those that these laws speak of (`polynomial_in`).
use Rattle.nc_algebra.proofs.Alphabets.{letter_light}
use Rattle.nc_algebra.proofs.NormalForms.{normal_leads, nothing_above, other_coefficient}
use Rattle.nc_algebra.proofs.Orders.{nat_order}
use Rattle.nc_algebra.proofs.Sums.{key_dec, zero_number}
use Rattle.nc_algebra.proofs.Words.{word_laws}
use Rattle.nc_algebra.specs.Alphabets.{Alphabet, AreWordsIn, IsAlphabet, IsLetterIn, IsTextWord, IsWordIn, letter_at}
use Rattle.nc_algebra.specs.Elements.{Setting, WordsAre, generator}
use Rattle.nc_algebra.specs.Finite.{IsLetterOf, IsOver}
use Rattle.nc_algebra.specs.Polynomials.{IsDescending, IsNormal, Polynomial, coefficient}
use Rattle.nc_algebra.specs.Primes.{IsZero}
use Rattle.nc_algebra.specs.Settings.{IsSetting, NamedSetting}
use Rattle.nc_algebra.specs.Words.{IsWordLess, Letter, Word, same_word}
use Rattle.nc_theory.specs.Named.{alphabet_letters}
use Rattle.nc_theory.proofs.Properties.{more_are}
use Rattle.std.proofs.Common.{Contains, [], ap, arith, get_or, inl, inr, length, subst, suc, sym, zero, ℕ, ◌<◌, ◌∙◌, ◌∷◌, ◌≡◌, ◌≢◌, ◌≤◌, ◌⊎◌}
use Rattle.std.proofs.lemmas.List.Elements.{All-from_recursion, All-weaker, recursion_from_All}
use Rattle.std.proofs.lemmas.List.FromFn.{get_or-map-range_with_len, length-map-range_with_len}
use Rattle.std.proofs.lemmas.List.{get_or_past}
use Rattle.std.specs.List.{AllByRecursion}

module _ (a : Alphabet) where
  letter_listed : (x : Letter) → IsLetterIn a x → Contains (alphabet_letters a) x
  letter_listed x l = (
    x.index,
    omega (arith, l.0, length-map-range_with_len (letter_at a) 0 (length a.names)),
    get_or-map-range_with_len (letter_at a) 0 (length a.names) x.index x.index x l.0
        (omega arith) ∙ sym l.1,
  )

  listed_letter : (x : Letter) → Contains (alphabet_letters a) x → IsLetterIn a x
  listed_letter x c = (
    omega (arith, within, ap (λ (y : Letter). y.index) is),
    sym is ∙ ap (letter_at a) (ap (λ (y : Letter). y.index) is),
  )
    where
      within : c.0 < length a.names
      within = omega (arith, c.1, length-map-range_with_len (letter_at a) 0 (length a.names))

      is : letter_at a c.0 ≡ x
      is = sym (get_or-map-range_with_len (letter_at a) 0 (length a.names) c.0 c.0 x within
          (omega arith)) ∙ c.2

  -- each of them is a letter that a program can have
  pub letter_of : IsAlphabet a → (x : Letter) → Contains (alphabet_letters a) x
      → IsLetterOf 64 100 x
  letter_of is x c =
      (omega (arith, (listed_letter x c).0, is.few), letter_light a is x (listed_letter x c))

  word_over : (w : Word) → AllByRecursion (IsLetterIn a) w → IsOver (alphabet_letters a) w
  word_over [] l = tt
  word_over (x ∷ w) l = (letter_listed x l.0, word_over w l.1)

  over_in : (w : Word) → IsOver (alphabet_letters a) w → AllByRecursion (IsLetterIn a) w
  over_in [] o = tt
  over_in (x ∷ w) o = (listed_letter x o.0, over_in w o.1)

  pub word_in : (w : Word) → IsOver (alphabet_letters a) w → IsWordIn a w
  word_in w o = All-from_recursion (IsLetterIn a) w (over_in w o)

  words_over : (s : Setting) (f : Polynomial) → AllByRecursion (λ t. IsWordIn a t.key) f
      → WordsAre s (IsOver (alphabet_letters a)) f
  words_over s [] l = λ w m. absurd (m (zero_number s.prime))
  words_over s (t ∷ f) l =
      more_are s (IsOver (alphabet_letters a)) t.coefficient t.key f
      (word_over t.key (recursion_from_All (IsLetterIn a) t.key l.0)) (words_over s f l.1)

  pub polynomial_over : (s : Setting) (f : Polynomial) → AreWordsIn a f
      → WordsAre s (IsOver (alphabet_letters a)) f
  polynomial_over s f are = words_over s f (recursion_from_All (λ t. IsWordIn a t.key) f are)

  -- all terms of a normal form have words of the polynomial
  words_in : (s : Setting) (f : Polynomial) → IsDescending f
      → AllByRecursion (λ t. t.coefficient < s.prime) f → WordsAre s (IsOver (alphabet_letters a)) f
      → AllByRecursion (λ t. IsWordIn a t.key) f
  words_in s [] d small o = tt
  words_in s (t ∷ f) d small o = (
    word_in t.key (o t.key (normal_leads s.prime t f d small.0).nonzero),
    words_in s f d.2 small.1 (λ w n. go w n (key_dec same_word IsWordLess word_laws w t.key)),
  )
    where
      go : (w : Word) → ¬ IsZero s.prime (coefficient f w) → (w ≡ t.key) ⊎ (w ≢ t.key)
          → IsOver (alphabet_letters a) w
      go w n (inl e) =
          absurd (n (subst (IsZero s.prime) (sym (nothing_above t.key f d.1 w (inl e)))
          (zero_number s.prime)))
      go w n (inr m) = o w (λ z. n (subst (IsZero s.prime) (other_coefficient t f w m) z))

  pub polynomial_in : (s : Setting) (f : Polynomial) → IsNormal s.prime f
      → WordsAre s (IsOver (alphabet_letters a)) f → AreWordsIn a f
  polynomial_in s f n o =
      All-from_recursion (λ t. IsWordIn a t.key) f
      (words_in s f n.0 (recursion_from_All (λ t. t.coefficient < s.prime) f n.1) o)

pub generator_over : (s : NamedSetting) → IsSetting s → (i : ℕ)
    → WordsAre s.setting (IsOver (alphabet_letters s.alphabet)) (generator s.setting i)
unfolding generator
generator_over s setting zero = λ w m. absurd (m (zero_number s.setting.prime))
generator_over s setting (suc i) = go (nat_order i (length s.setting.generators))
  where
    listed : i < length s.setting.generators
        → WordsAre s.setting (IsOver (alphabet_letters s.alphabet))
        (get_or s.setting.generators i [])
    listed l =
        polynomial_over s.alphabet s.setting (get_or s.setting.generators i [])
        (All-weaker (λ t. IsTextWord s.alphabet t.key) (λ t. IsWordIn s.alphabet t.key)
        (λ t is. is.letters) (get_or s.setting.generators i [])
        (setting.each i [] l).polynomial.words)

    past : length s.setting.generators ≤ i
        → WordsAre s.setting (IsOver (alphabet_letters s.alphabet))
        (get_or s.setting.generators i [])
    past l =
        subst (WordsAre s.setting (IsOver (alphabet_letters s.alphabet)))
        (sym (get_or_past s.setting.generators i [] l))
        (λ w m. absurd (m (zero_number s.setting.prime)))

    go : (i < length s.setting.generators)
        ⊎ ((i ≡ length s.setting.generators) ⊎ (length s.setting.generators < i))
        → WordsAre s.setting (IsOver (alphabet_letters s.alphabet))
        (get_or s.setting.generators i [])
    go (inl l) = listed l
    go (inr (inl e)) = past (omega (arith, e))
    go (inr (inr l)) = past (omega (arith, l))
