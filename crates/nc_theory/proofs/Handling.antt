-- What becomes of a signature, from what the steps of its handling found.
-- `handled` and `generator_handled` put start, reduction and outcome together.
use Rattle.nc_algebra.proofs.Alphabets.{letter_light, text_word_light}
use Rattle.nc_algebra.specs.Finite.{AreLetters}
use Rattle.nc_algebra.proofs.Sums.{zero_number}
use Rattle.nc_algebra.specs.Alphabets.{Alphabet, AreWordsIn, IsAlphabet, IsLetterIn, IsTextGenerator, IsTextWord, IsWordIn}
use Rattle.nc_algebra.specs.Settings.{IsSetting, NamedSetting}
use Rattle.nc_algebra.specs.Elements.{IsGenerator, IsLess, Setting, generator}
use Rattle.nc_algebra.specs.Monomials.{Monomial, times, unit_monomial}
use Rattle.nc_algebra.specs.Polynomials.{IsNormal, Polynomial, polynomial_times}
use Rattle.nc_algebra.specs.Sums.{SameSum}
use Rattle.nc_algebra.specs.Words.{Word, same_word, word_weight}
use Rattle.nc_theory.proofs.Multiples.{shifted_few, shifted_small}
use Rattle.nc_theory.proofs.Turns.{reduction_same}
use Rattle.nc_theory.specs.Best.{IsBest}
use Rattle.nc_theory.specs.Found.{Best, Chosen}
use Rattle.nc_theory.specs.Outcomes.{outcome_after}
use Rattle.nc_theory.specs.Places.{IsChoice}
use Rattle.nc_theory.specs.Usable.{HasSmallWords, IsSmall, IsUsable, IsUsableSignature}
use Rattle.nc_theory.proofs.Determinism.{listed_same}
use Rattle.nc_theory.proofs.Properties.{more_are}
use Rattle.nc_theory.specs.Divisors.{RegularDivisor, multiple_at, number_of}
use Rattle.nc_theory.specs.Reductions.{ReductionAt}
use Rattle.nc_theory.specs.Runs.{Handles, Outcome, Starts}
use Rattle.nc_theory.specs.States.{Entry, Start, State, Step}
use Rattle.nc_theory.specs.Syzygies.{Covered}
use Rattle.std.proofs.Common.{List, Some, [], ap, ap₂, arith, get_or, length, refl, subst, sym, ℕ, ◌+◌, ◌-◌, ◌∙◌, ◌∷◌, ◌≡◌, ◌≢◌, ◌≤◌, suc, zero}
use Rattle.std.proofs.lemmas.List.Elements.{All-weaker, recursion_from_All}
use Rattle.std.specs.List.{All, AllByRecursion}

-- ---- small words

module _ (a : Alphabet) (is : IsAlphabet a) where
  letters_small : (w : Word) → AllByRecursion (IsLetterIn a) w → AreLetters 64 100 w
  letters_small [] l = tt
  letters_small (x ∷ w) l =
      ((omega (arith, is.few, l.0.0), letter_light a is x l.0), letters_small w l.1)

  small_words : (s : Setting) (f : Polynomial) → AllByRecursion (λ t. IsWordIn a t.key) f
      → AllByRecursion (λ t. word_weight t.key ≤ 200000) f → HasSmallWords s f
  small_words s [] l h = λ w m. absurd (m (zero_number s.prime))
  small_words s (t ∷ f) l h =
      more_are s IsSmall t.coefficient t.key f
      (h.0, letters_small t.key (recursion_from_All (IsLetterIn a) t.key l.0))
      (small_words s f l.1 h.1)

  -- words over the alphabet within the limit
  pub words_small : (s : Setting) (f : Polynomial) → AreWordsIn a f
      → All (λ t. word_weight t.key ≤ 200000) f → HasSmallWords s f
  words_small s f are light =
      small_words s f (recursion_from_All (λ t. IsWordIn a t.key) f are)
      (recursion_from_All (λ t. word_weight t.key ≤ 200000) f light)

  -- words of a text
  pub text_words : (s : Setting) (f : Polynomial) → All (λ t. IsTextWord a t.key) f
      → HasSmallWords s f
  text_words s f texts =
      words_small s f (All-weaker (λ t. IsTextWord a t.key) (λ t. IsWordIn a t.key)
      (λ t x. x.letters) f texts) (All-weaker (λ t. IsTextWord a t.key)
      (λ t. word_weight t.key ≤ 200000) (λ t x. omega (arith, text_word_light a is t.key x)) f
      texts)

generator_at : (s : Setting) (i : ℕ) → 1 ≤ i → get_or s.generators (i - 1) [] ≡ generator s i
unfolding generator
generator_at s zero h = absurd (omega (arith, h))
generator_at s (suc i) h =
    let e : suc i - 1 ≡ i = omega arith in ap (λ k. get_or s.generators k []) e

module _ (s : NamedSetting) (setting : IsSetting s) (i : ℕ) (valid : IsGenerator s.setting i)
    (f : Polynomial) (read : f ≡ get_or s.setting.generators (i - 1) f) where
  text : IsTextGenerator s.alphabet s.setting.prime f
  text = subst (IsTextGenerator s.alphabet s.setting.prime) (sym read)
      (setting.each (i - 1) f (omega (arith, valid.0, valid.1)))

-- ---- outcomes

module _ (s : Setting) (state : State) (τ : Monomial) (uncovered : ¬ Covered s state τ) where
  pub handled : (f kept : Polynomial) (start : Start) (steps : List Step) (o : Outcome)
      → Starts s state.entries τ f start → ReductionAt s state.entries τ f kept steps
      → o ≡ outcome_after start kept steps → Handles s state τ o
  handled f [] start steps o a r e =
      subst (Handles s state τ) (sym e) (Handles.is_syzygy uncovered a r)
  handled f (t ∷ kept) start steps o a r e =
      subst (Handles s state τ) (sym e) (Handles.is_entry uncovered a r)

  pub generator_handled : (i : ℕ) (f kept : Polynomial) (steps : List Step) (o : Outcome)
      → τ ≡ unit_monomial i → f ≡ generator s i → ReductionAt s state.entries τ f kept steps
      → o ≡ outcome_after (Start.a_generator i) kept steps → Handles s state τ o
  generator_handled i f kept steps o u e r h =
      handled (generator s i) kept (Start.a_generator i) steps o (Starts.at_generator i u)
      (subst (λ g. ReductionAt s state.entries τ g kept steps) e r) h

  no_unit : τ ≢ unit_monomial τ.generator → (i : ℕ) → τ ≢ unit_monomial i
  no_unit n i e = n (e ∙ ap unit_monomial (sym (ap (λ σ. σ.generator) e)))

  module _ (other : τ ≢ unit_monomial τ.generator) (b : Best)
      (best : IsBest s state.entries τ (Some b)) (w : Word) (is_word : w ≡ b.word) where
    module _ (usable : All (IsUsable s) state.entries) (limit : IsUsableSignature s τ) (e : Entry)
        (read : e ≡ get_or state.entries (b.number - 1) e) (f : Polynomial)
        (of_entry : f ≡ e.polynomial) (u v : Word) (is_left : u ≡ b.left) (is_right : v ≡ b.right)
      where
        entry_is : e ≡ best.0.entry
        entry_is =
            let place : b.number - 1 ≡ best.0.listed.0 = omega (arith, best.3) in
            listed_same state.entries e best.0.entry (
              best.0.listed.0,
              best.0.listed.1,
              ap (λ k. get_or state.entries k e) (sym place) ∙ sym read,
            ) best.0.listed refl

        usable_one : IsUsable s e
        usable_one =
            subst (IsUsable s) (sym (entry_is ∙ sym best.0.listed.2))
            (usable best.0.listed.0 best.0.entry best.0.listed.1)

        signed : times u e.signature v ≡ τ
        signed =
            ap₂ (λ x y. times x e.signature y) (is_left ∙ sym best.2) (is_right ∙ sym best.4)
            ∙ (ap (λ (x : Entry). times best.0.left x.signature best.0.right) entry_is
            ∙ best.1.signed)

        pub multiple_residues : IsNormal s.prime f
        multiple_residues = subst (IsNormal s.prime) (sym of_entry) usable_one.normal

        pub multiple_few : All (λ x. length u + length x.key + length v ≤ 200000) f
        multiple_few =
            subst (λ (g : Polynomial). All (λ x. length u + length x.key + length v ≤ 200000) g)
            (sym of_entry) (shifted_few s τ limit u v e usable_one signed)

        module _ (g : Polynomial) (same : SameSum same_word s.prime g (polynomial_times u f v))
          where
            at_entry : SameSum same_word s.prime g (polynomial_times u e.polynomial v)
            at_entry =
                subst (λ (h : Polynomial). SameSum same_word s.prime g (polynomial_times u h v))
                of_entry same

            pub start_small : HasSmallWords s g
            start_small x n =
                shifted_small s τ limit u v e usable_one signed x (λ z. n (at_entry.at x ∙ z))

            pub multiple_handled : (c : Chosen) (kept : Polynomial) (steps : List Step) (o : Outcome)
                → IsChoice s state.entries τ w (Some c) → ReductionAt s state.entries τ g kept steps
                → o ≡ outcome_after (Start.a_multiple b.left b.number b.right) kept steps
                → Handles s state τ o
            multiple_handled c kept steps o found r h =
                let regular : RegularDivisor s state.entries τ b.word =
                (let k : IsChoice s state.entries τ b.word (Some c) = subst
                (λ x. IsChoice s state.entries τ x (Some c)) is_word found in
                record { divisor = k.0; below = k.1.allowed }) in
                handled (multiple_at s state.entries b.word best.0) kept
                (Start.a_multiple best.0.left (number_of s state.entries b.word best.0)
                best.0.right) steps o (Starts.at_multiple (no_unit other) b.word best.0 best.1
                regular)
                (reduction_same s state.entries (λ σ. IsLess s σ τ) r
                (multiple_at s state.entries b.word best.0)
                (subst (λ (h : Polynomial). SameSum same_word s.prime g h)
                (ap₂ (λ x y. polynomial_times x e.polynomial y) (is_left ∙ sym best.2)
                (is_right ∙ sym best.4) ∙ ap (λ (x : Entry). polynomial_times best.0.left
                x.polynomial best.0.right) entry_is) at_entry))
                (h ∙ (λ i. outcome_after (Start.a_multiple (sym best.2 i) (sym best.3 i)
                (sym best.4 i))
                kept steps))
