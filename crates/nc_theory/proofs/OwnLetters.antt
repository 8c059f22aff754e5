-- A representation needs no letters but those of the generators and of what it represents.
-- The terms with other letters are left out of the module element (`kept_terms`). What they
-- evaluate to has only words with other letters, and the rest has none, so neither gives to the
-- other: over the letters the sum is what it was (`at_over`), and elsewhere both the rest and the
-- polynomial are zero (`own_evaluates`). For an alphabet this is `in_alphabet`.
use Rattle.nc_algebra.proofs.Finite.{over-append, over_back, over_dec, over_front}
use Rattle.nc_algebra.proofs.Monomials.{monomial_laws}
use Rattle.nc_algebra.proofs.Orders.{Decided}
use Rattle.nc_algebra.proofs.Sums.{at_other, linear_sum-append, linear_sum-scale, zero_add, zero_dec, zero_mul_left, zero_number}
use Rattle.nc_algebra.proofs.Words.{word_laws}
use Rattle.nc_algebra.specs.Alphabets.{AreWordsIn}
use Rattle.nc_algebra.specs.Elements.{Element, IsIn, IsLess, SamePolynomial, Setting, WordsAre, evaluation, generator, generator_weight}
use Rattle.nc_algebra.specs.Finite.{IsOver}
use Rattle.nc_algebra.specs.Monomials.{Monomial, same_monomial}
use Rattle.nc_algebra.specs.Polynomials.{Polynomial, coefficient, polynomial_times}
use Rattle.nc_algebra.specs.Primes.{IsZero}
use Rattle.nc_algebra.specs.Settings.{IsSetting, NamedSetting}
use Rattle.nc_algebra.specs.Sums.{Term, coefficient_by, is_at, scale}
use Rattle.nc_algebra.specs.Words.{IsWordLess, Letter, Word, same_word}
use Rattle.nc_theory.proofs.OverAlphabet.{generator_over, polynomial_over, word_in}
use Rattle.nc_theory.proofs.Properties.{times_are}
use Rattle.nc_theory.specs.Bases.{HasRepresentation}
use Rattle.nc_theory.specs.Named.{IsMonomialIn, alphabet_letters}
use Rattle.std.proofs.Common.{List, [], ap, arith, inl, inr, refl, subst, sym, ℕ, ◌%◌, ◌*◌, ◌++◌, ◌+◌, ◌∙◌, ◌∷◌, ◌↔◌, ◌≡◌, ◌⊎◌}

module _ (letters : List Letter) where
  -- both words are over the letters
  abbrev pub SidesOver : Monomial → Type 0
  SidesOver σ = IsOver letters σ.left × IsOver letters σ.right

  sides_dec : (σ : Monomial) → Decided (SidesOver σ)
  sides_dec σ = go (over_dec letters σ.left) (over_dec letters σ.right)
    where
      go : Decided (IsOver letters σ.left) → Decided (IsOver letters σ.right)
          → Decided (SidesOver σ)
      go (inl l) (inl r) = inl (l, r)
      go (inl l) (inr n) = inr (λ o. n o.1)
      go (inr n) d = inr (λ o. n o.0)

  -- the term in front, where its sides are over the letters
  abbrev kept_term : (t : Term Monomial) → Decided (SidesOver t.key) → Element → Element
  kept_term t (inl o) α = t ∷ α
  kept_term t (inr n) α = α

  -- the terms whose sides are over the letters
  kept_terms : Element → Element
  kept_terms [] = []
  kept_terms (t ∷ α) = kept_term t (sides_dec t.key) (kept_terms α)

  module _ (s : Setting) where
    -- their coefficients are what they were
    kept_over : (α : Element) (σ : Monomial) → SidesOver σ
        → coefficient_by same_monomial (kept_terms α) σ ≡ coefficient_by same_monomial α σ
    unfolding kept_terms
    kept_over [] σ o = refl
    kept_over (t ∷ α) σ o = go (sides_dec t.key) (kept_over α σ o)
      where
        go : (d : Decided (SidesOver t.key))
            → coefficient_by same_monomial (kept_terms α) σ ≡ coefficient_by same_monomial α σ
            → coefficient_by same_monomial (kept_term t d (kept_terms α)) σ
            ≡ coefficient_by same_monomial (t ∷ α) σ
        go (inl k) e = ap (λ n. t.coefficient * is_at same_monomial σ t.key + n) e
        go (inr n) e =
            omega (
              arith,
              e,
              ap (λ m. t.coefficient * m)
                  (at_other same_monomial (IsLess s) (monomial_laws (generator_weight s)) σ t.key
                  (λ i. n (subst SidesOver i o))),
            )

    -- and other monomials have none
    kept_none : (α : Element) (σ : Monomial) → ¬ SidesOver σ
        → coefficient_by same_monomial (kept_terms α) σ ≡ 0
    unfolding kept_terms
    kept_none [] σ n = refl
    kept_none (t ∷ α) σ n = go (sides_dec t.key) (kept_none α σ n)
      where
        go : (d : Decided (SidesOver t.key))
            → coefficient_by same_monomial (kept_terms α) σ ≡ 0
            → coefficient_by same_monomial (kept_term t d (kept_terms α)) σ ≡ 0
        go (inl k) e =
            omega (
              arith,
              e,
              ap (λ m. t.coefficient * m)
                  (at_other same_monomial (IsLess s) (monomial_laws (generator_weight s)) σ t.key
                  (λ i. n (subst SidesOver (sym i) k))),
            )
        go (inr m) e = e

    -- the multiple of a generator that a monomial stands for
    abbrev multiple : Monomial → Polynomial
    multiple σ = polynomial_times σ.left (generator s σ.generator) σ.right

    -- a multiple with other letters around it has no word over the letters
    none_over : (u v x : Word) → ¬ (IsOver letters u × IsOver letters v) → IsOver letters x
        → (f : Polynomial) → coefficient (polynomial_times u f v) x ≡ 0
    none_over u v x n o [] = refl
    none_over u v x n o (t ∷ f) =
        omega (
          arith,
          none_over u v x n o f,
          ap (λ m. t.coefficient * m)
              (at_other same_word IsWordLess word_laws x (u ++ (t.key ++ v))
              (λ i. clash (subst (IsOver letters) i o))),
        )
      where
        clash : IsOver letters (u ++ (t.key ++ v)) → ⊥
        clash k = n (
          over_front letters u (t.key ++ v) k,
          over_back letters t.key v (over_back letters u (t.key ++ v) k),
        )

    -- one term of an evaluation
    first_term : (t : Term Monomial) (α : Element) (x : Word) → coefficient (evaluation s (t ∷ α)) x
        ≡ t.coefficient * coefficient (multiple t.key) x + coefficient (evaluation s α) x
    first_term t α x =
        linear_sum-append (is_at same_word x) (scale t.coefficient (multiple t.key))
        (evaluation s α)
        ∙ ap (λ n. n + coefficient (evaluation s α) x)
        (linear_sum-scale (is_at same_word x) t.coefficient (multiple t.key))

    -- at a word over the letters both sums are equal
    at_over : (α : Element) (x : Word) → IsOver letters x
        → coefficient (evaluation s (kept_terms α)) x ≡ coefficient (evaluation s α) x
    unfolding kept_terms
    at_over [] x o = refl
    at_over (t ∷ α) x o = go (sides_dec t.key) (at_over α x o)
      where
        go : (d : Decided (SidesOver t.key))
            → coefficient (evaluation s (kept_terms α)) x ≡ coefficient (evaluation s α) x
            → coefficient (evaluation s (kept_term t d (kept_terms α))) x
            ≡ coefficient (evaluation s (t ∷ α)) x
        go (inl k) e =
            first_term t (kept_terms α) x
            ∙ (ap (λ n. t.coefficient * coefficient (multiple t.key) x + n) e
            ∙ sym (first_term t α x))
        go (inr n) e =
            omega (
              arith,
              e,
              first_term t α x,
              ap (λ m. t.coefficient * m)
                  (none_over t.key.left t.key.right x n o (generator s t.key.generator)),
            )

    module _ (inputs : (i : ℕ) → WordsAre s (IsOver letters) (generator s i)) where
      -- elsewhere what is kept has no word
      elsewhere : (α : Element) (x : Word) → ¬ IsOver letters x
          → IsZero s.prime (coefficient (evaluation s (kept_terms α)) x)
      unfolding kept_terms
      elsewhere [] x n = zero_number s.prime
      elsewhere (t ∷ α) x n = go (sides_dec t.key) (elsewhere α x n)
        where
          go : (d : Decided (SidesOver t.key))
              → IsZero s.prime (coefficient (evaluation s (kept_terms α)) x)
              → IsZero s.prime (coefficient (evaluation s (kept_term t d (kept_terms α))) x)
          go (inl k) z =
              subst (IsZero s.prime) (sym (first_term t (kept_terms α) x))
              (zero_add s.prime (t.coefficient * coefficient (multiple t.key) x)
              (coefficient (evaluation s (kept_terms α)) x)
              (zero_mul_left s.prime t.coefficient (coefficient (multiple t.key) x)
              (absent (zero_dec s.prime (coefficient (multiple t.key) x)))) z)
            where
              absent : IsZero s.prime (coefficient (multiple t.key) x)
                  ⊎ ¬ IsZero s.prime (coefficient (multiple t.key) x)
                  → IsZero s.prime (coefficient (multiple t.key) x)
              absent (inl y) = y
              absent (inr m) =
                  absurd (n (times_are s (IsOver letters) (over_dec letters) t.key.left
                  (generator s t.key.generator) t.key.right
                  (λ w c. over-append letters t.key.left (w ++ t.key.right) k.0
                  (over-append letters w t.key.right (inputs t.key.generator w c) k.1)) x m))
          go (inr m) z = z

      own_evaluates : (α : Element) (f : Polynomial) → WordsAre s (IsOver letters) f
          → SamePolynomial s (evaluation s α) f
          → SamePolynomial s (evaluation s (kept_terms α)) f
      own_evaluates α f o e = record { at = λ x. go x (over_dec letters x) }
        where
          go : (x : Word) → Decided (IsOver letters x)
              → coefficient (evaluation s (kept_terms α)) x % s.prime
              ≡ coefficient f x % s.prime
          go x (inl k) = ap (λ n. n % s.prime) (at_over α x k) ∙ e.at x
          go x (inr n) = elsewhere α x n ∙ sym (absent (zero_dec s.prime (coefficient f x)))
            where
              absent : IsZero s.prime (coefficient f x) ⊎ ¬ IsZero s.prime (coefficient f x)
                  → IsZero s.prime (coefficient f x)
              absent (inl z) = z
              absent (inr m) = absurd (n (o x m))

      own_lies : (set : Monomial → Type 0) (α : Element) → IsIn s α set
          → IsIn s (kept_terms α) (λ σ. set σ × SidesOver σ)
      own_lies set α lies σ n = go (sides_dec σ)
        where
          go : Decided (SidesOver σ) → set σ × SidesOver σ
          go (inl o) = (lies σ (λ z. n (subst (IsZero s.prime) (sym (kept_over α σ o)) z)), o)
          go (inr m) =
              absurd (n (subst (IsZero s.prime) (sym (kept_none α σ m)) (zero_number s.prime)))

      -- a representation exists over all letters exactly where one exists over these
      pub own_letters : (set : Monomial → Type 0) (f : Polynomial) → WordsAre s (IsOver letters) f
          → HasRepresentation s set f ↔ HasRepresentation s (λ σ. set σ × SidesOver σ) f
      own_letters set f o = (
        λ r. (kept_terms r.0, own_lies set r.0 r.1, own_evaluates r.0 f o r.2),
        λ r. (r.0, (λ σ n. (r.1 σ n).0), r.2),
      )

-- so it is for the alphabet of a setting
pub in_alphabet : (s : NamedSetting) → IsSetting s → (set : Monomial → Type 0) (f : Polynomial)
    → AreWordsIn s.alphabet f → HasRepresentation s.setting set f
    ↔ HasRepresentation s.setting (λ σ. set σ × IsMonomialIn s.alphabet σ) f
in_alphabet s is set f words =
    (λ r. named (both.0 r), λ r. (r.0, (λ σ n. (r.1 σ n).0), r.2))
  where
    both : HasRepresentation s.setting set f ↔ HasRepresentation s.setting
        (λ σ. set σ × SidesOver (alphabet_letters s.alphabet) σ) f
    both = own_letters (alphabet_letters s.alphabet) s.setting (generator_over s is) set f
        (polynomial_over s.alphabet s.setting f words)

    named : HasRepresentation s.setting
        (λ σ. set σ × SidesOver (alphabet_letters s.alphabet) σ) f
        → HasRepresentation s.setting (λ σ. set σ × IsMonomialIn s.alphabet σ) f
    named r = (
      r.0,
      λ σ n. let o = r.1 σ n in (
        o.0,
        (word_in s.alphabet σ.left o.1.0, word_in s.alphabet σ.right o.1.1),
      ),
      r.2,
    )
