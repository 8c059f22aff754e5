-- Small words: of parts and of multiples, and the words of a polynomial in normal form.
-- A word is small if it weighs at most 200,000 over letters that a program has. A multiple that
-- stands in a small word has small words (`multiple_small`), and so has the difference
-- (`difference_small`).
use Rattle.nc_algebra.proofs.Leading.{lead_leads}
use Rattle.nc_algebra.proofs.NormalForms.{normal_leads}
use Rattle.nc_algebra.proofs.Orders.{Decided, lt_dec, nat_order}
use Rattle.nc_algebra.specs.Finite.{AreLetters, IsLetterOf}
use Rattle.nc_algebra.proofs.Sums.{below_lead}
use Rattle.nc_algebra.proofs.Words.{length_at_most, less_weighs, weight-append, word_laws}
use Rattle.nc_algebra.specs.Elements.{IsLeadingWord, IsZeroPolynomial, Setting, WordsAre}
use Rattle.nc_algebra.specs.Polynomials.{AllLess, IsNormal, Polynomial, coefficient, leading, polynomial_times}
use Rattle.nc_algebra.specs.Primes.{IsZero}
use Rattle.nc_algebra.specs.Sums.{SameSum, Term, minus}
use Rattle.nc_algebra.specs.Words.{IsWordLess, Letter, Word, letter_weight, same_word, word_weight}
use Rattle.nc_theory.specs.Usable.{HasSmallWords, IsSmall, IsUsable}
use Rattle.nc_theory.proofs.Properties.{minus_are, times_are}
use Rattle.nc_theory.specs.States.{Entry}
use Rattle.std.proofs.Common.{Contains, List, Some, [], ap, arith, inl, inr, length, refl, subst, sym, ℕ, ◌+◌, ◌++◌, ◌<◌, ◌∙◌, ◌∷◌, ◌≡◌, ◌≤◌, ◌⊎◌}
use Rattle.std.proofs.lemmas.List.Elements.{All-from_recursion, recursion_from_All}
use Rattle.std.proofs.lemmas.Option.{get_or_from_slice_get, slice_get_within}
use Rattle.std.specs.List.{All, AllByRecursion, slice_get}

module _ (k m : ℕ) where
  pub letters_front : (u v : Word) → AreLetters k m (u ++ v) → AreLetters k m u
  letters_front [] v a = tt
  letters_front (x ∷ u) v a = (a.0, letters_front u v a.1)

  pub letters_back : (u v : Word) → AreLetters k m (u ++ v) → AreLetters k m v
  letters_back [] v a = a
  letters_back (x ∷ u) v a = letters_back u v a.1

  pub letters-append : (u v : Word) → AreLetters k m u → AreLetters k m v → AreLetters k m (u ++ v)
  letters-append [] v a b = b
  letters-append (x ∷ u) v a b = (a.0, letters-append u v a.1 b)

  letter_of_dec : (x : Letter) → Decided (IsLetterOf k m x)
  letter_of_dec x = go (lt_dec x.index k) (lt_dec m (letter_weight x))
    where
      go : Decided (x.index < k) → Decided (m < letter_weight x) → Decided (IsLetterOf k m x)
      go (inl h) (inr n) = inl (h, last (nat_order m (letter_weight x)) n)
        where
          last : (m < letter_weight x) ⊎ ((m ≡ letter_weight x) ⊎ (letter_weight x < m))
              → ¬ (m < letter_weight x) → letter_weight x ≤ m
          last (inl h) n = absurd (n h)
          last (inr (inl h)) n = omega (arith, h)
          last (inr (inr h)) n = omega (arith, h)
      go (inl h) (inl l) = inr (λ a. omega (arith, l, a.1))
      go (inr n) d = inr (λ a. n a.0)

  letters_dec : (w : Word) → Decided (AreLetters k m w)
  letters_dec [] = inl tt
  letters_dec (x ∷ w) = go (letter_of_dec x) (letters_dec w)
    where
      go : Decided (IsLetterOf k m x) → Decided (AreLetters k m w)
          → Decided (AreLetters k m (x ∷ w))
      go (inl a) (inl b) = inl (a, b)
      go (inr n) d = inr (λ a. n a.0)
      go (inl a) (inr n) = inr (λ b. n b.1)

small_dec : (w : Word) → Decided (IsSmall w)
small_dec w = go (lt_dec 200000 (word_weight w)) (letters_dec 64 100 w)
  where
    go : Decided (200000 < word_weight w) → Decided (AreLetters 64 100 w) → Decided (IsSmall w)
    go (inl h) d = inr (λ a. omega (arith, h, a.0))
    go (inr n) (inl a) = inl (last (nat_order 200000 (word_weight w)), a)
      where
        last : (200000 < word_weight w) ⊎ ((200000 ≡ word_weight w) ⊎ (word_weight w < 200000))
            → word_weight w ≤ 200000
        last (inl h) = absurd (n h)
        last (inr (inl h)) = omega (arith, h)
        last (inr (inr h)) = omega (arith, h)
    go (inr n) (inr m) = inr (λ a. m a.1)

-- a multiple that stands in a small word has small words
pub multiple_small : (s : Setting) (u v w : Word) (f : Polynomial)
    → WordsAre s (AreLetters 64 100) f → IsLeadingWord s f (leading s.prime f)
    → u ++ (leading s.prime f ++ v) ≡ w → IsSmall w → HasSmallWords s (polynomial_times u f v)
multiple_small s u v w f small lead spells h = times_are s IsSmall small_dec u f v each
  where
    whole : IsSmall (u ++ (leading s.prime f ++ v))
    whole = subst IsSmall (sym spells) h

    lighter : (x : Word) → (x ≡ leading s.prime f) ⊎ IsWordLess x (leading s.prime f)
        → word_weight x ≤ word_weight (leading s.prime f)
    lighter x (inl e) = omega (arith, ap word_weight e)
    lighter x (inr l) = less_weighs x (leading s.prime f) l

    each : (x : Word) → ¬ IsZero s.prime (coefficient f x) → IsSmall (u ++ (x ++ v))
    each x n = (
      omega (
        arith,
        whole.0,
        weight-append u (leading s.prime f ++ v),
        weight-append (leading s.prime f) v,
        weight-append u (x ++ v),
        weight-append x v,
        lighter x (below_lead same_word IsWordLess word_laws s.prime f (leading s.prime f) x
            lead n),
      ),
      letters-append 64 100 u (x ++ v) (letters_front 64 100 u (leading s.prime f ++ v) whole.1)
          (letters-append 64 100 x v (small x n)
          (letters_back 64 100 (leading s.prime f) v
          (letters_back 64 100 u (leading s.prime f ++ v) whole.1))),
    )

-- so has the difference
pub difference_small : (s : Setting) (f : Polynomial) (c : ℕ) (g new : Polynomial)
    → HasSmallWords s f → HasSmallWords s g → SameSum same_word s.prime new (minus s.prime f c g)
    → HasSmallWords s new
difference_small s f c g new a b e w n = minus_are s IsSmall f c g a b w (λ z. n (e.at w ∙ z))

-- the words of a multiple have few letters, where its first one has
pub few_letters : (u v : Word) (t : Term Word) (f : Polynomial) (n : ℕ) → AllLess t.key f
    → word_weight u + word_weight t.key + word_weight v ≤ n
    → All (λ x. length u + length x.key + length v ≤ n) (t ∷ f)
few_letters u v t f n less h =
    All-from_recursion (λ x. length u + length x.key + length v ≤ n) (t ∷ f)
    (omega (arith, h, length_at_most u, length_at_most v, length_at_most t.key), rest f less)
  where
    rest : (g : Polynomial) → AllLess t.key g
        → AllByRecursion (λ x. length u + length x.key + length v ≤ n) g
    rest [] a = tt
    rest (x ∷ g) a = (
      omega (
        arith,
        h,
        length_at_most u,
        length_at_most v,
        length_at_most x.key,
        less_weighs x.key t.key a.0,
      ),
      rest g a.1,
    )

-- the first term of a normal form leads, and its coefficient is the whole one
pub first_leads : (s : Setting) (t : Term Word) (f : Polynomial) → IsNormal s.prime (t ∷ f)
    → IsLeadingWord s (t ∷ f) t.key
first_leads s t f n =
    normal_leads s.prime t f n.0 (recursion_from_All (λ u. u.coefficient < s.prime) (t ∷ f) n.1).0

pub first_residue : (p : ℕ) (t : Term Word) (f : Polynomial) → IsNormal p (t ∷ f)
    → t.coefficient < p
first_residue p t f n = (recursion_from_All (λ u. u.coefficient < p) (t ∷ f) n.1).0

-- so an entry is not zero
pub usable_nonzero : (s : Setting) (entries : List Entry) → All (IsUsable s) entries → (e : Entry)
    → Contains entries e → ¬ IsZeroPolynomial s e.polynomial
usable_nonzero s entries a e k z = go e.polynomial refl
  where
    usable_one : IsUsable s e
    usable_one = subst (IsUsable s) k.2 (a k.0 e k.1)

    go : (f : Polynomial) → e.polynomial ≡ f → ⊥
    go [] i = usable_one.some i
    go (t ∷ f) i =
        (first_leads s t f (subst (IsNormal s.prime) i usable_one.normal)).nonzero
        (subst (λ g. IsZero s.prime (coefficient g t.key)) i (z t.key))

pub usable_at : (s : Setting) (entries : List Entry) → All (IsUsable s) entries
    → (i : ℕ) (e : Entry) → slice_get entries i ≡ Some e → IsUsable s e
usable_at s entries usable i e at =
    subst (IsUsable s) (get_or_from_slice_get entries i e e at)
    (usable i e (slice_get_within entries i e at))

pub usable_lead : (s : Setting) (e : Entry) → IsUsable s e
    → IsLeadingWord s e.polynomial (leading s.prime e.polynomial)
usable_lead s e u =
    lead_leads s.prime e.polynomial
    (usable_nonzero s (e ∷ []) (All-from_recursion (IsUsable s) (e ∷ []) (u, tt)) e (
      0,
      omega arith,
      refl,
    ))
