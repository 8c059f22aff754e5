-- Words over an alphabet are light.
use Rattle.nc_algebra.specs.Alphabets.{Alphabet, IsAlphabet, IsLetterIn, IsTextWord, IsWordIn}
use Rattle.nc_algebra.specs.Words.{Word, letter_weight, word_weight}
use Rattle.std.proofs.Common.{ap, arith, length, ◌*◌, ◌∷◌, [], ◌≤◌}
use Rattle.std.proofs.lemmas.List.Elements.{recursion_from_All}
use Rattle.std.specs.List.{AllByRecursion}

module _ (a : Alphabet) (h : IsAlphabet a) where
  -- a letter weighs at most 100
  pub letter_light : (x : Rattle.nc_algebra.specs.Words.Letter) → IsLetterIn a x
      → letter_weight x ≤ 100
  letter_light x l =
      omega (arith, ap letter_weight l.1, (h.weights x.index 1 (omega (arith, l.0, h.each))).1)

  letters_weigh : (w : Word) → AllByRecursion (IsLetterIn a) w → word_weight w ≤ 100 * length w
  letters_weigh [] l = omega arith
  letters_weigh (x ∷ w) l = omega (arith, letters_weigh w l.1, letter_light x l.0)

  -- a word weighs at most 100 times as much as it has letters
  pub word_light : (w : Word) → IsWordIn a w → word_weight w ≤ 100 * length w
  word_light w l = letters_weigh w (recursion_from_All (IsLetterIn a) w l)

  -- so a word of a text weighs at most 25,500
  pub text_word_light : (w : Word) → IsTextWord a w → word_weight w ≤ 25500
  text_word_light w t = omega (arith, word_light w t.letters, t.short)
