-- A property of all words of a polynomial is kept by sums and multiples.
-- For example: all words are over some letters, or weigh at most some number.
use Rattle.nc_algebra.proofs.Orders.{Decided}
use Rattle.nc_algebra.proofs.Sums.{at_other, key_dec, linear_sum-map_keys, linear_sum_zero, zero_add, zero_dec, zero_mul_left, zero_number}
use Rattle.nc_algebra.proofs.Words.{word_laws}
use Rattle.nc_algebra.specs.Elements.{Setting, WordsAre}
use Rattle.nc_algebra.specs.Polynomials.{Polynomial, coefficient, polynomial_times}
use Rattle.nc_algebra.specs.Primes.{IsZero}
use Rattle.nc_algebra.specs.Sums.{is_at, minus}
use Rattle.nc_algebra.specs.Words.{IsWordLess, Word, same_word}
use Rattle.nc_theory.proofs.Chains.{coefficient_polynomial_minus}
use Rattle.std.proofs.Common.{ap, arith, inl, inr, subst, sym, ℕ, ◌*◌, ◌++◌, ◌-◌, ◌∷◌, ◌≡◌, ◌≢◌, ◌⊎◌}

module _ (s : Setting) (property : Word → Type 0) where
  pub minus_are : (f : Polynomial) (c : ℕ) (g : Polynomial) → WordsAre s property f
      → WordsAre s property g → WordsAre s property (minus s.prime f c g)
  minus_are f c g h k w n =
      go (zero_dec s.prime (coefficient f w)) (zero_dec s.prime (coefficient g w))
    where
      go : IsZero s.prime (coefficient f w) ⊎ ¬ IsZero s.prime (coefficient f w)
          → IsZero s.prime (coefficient g w) ⊎ ¬ IsZero s.prime (coefficient g w) → property w
      go (inr m) o = h w m
      go (inl z) (inr m) = k w m
      go (inl z) (inl y) =
          absurd (n (subst (IsZero s.prime) (sym (coefficient_polynomial_minus s f c g w))
          (zero_add s.prime (coefficient f w) ((s.prime - 1) * c * coefficient g w) z
          (zero_mul_left s.prime ((s.prime - 1) * c) (coefficient g w) y))))

  -- with one term more
  pub more_are : (c : ℕ) (w : Word) (f : Polynomial) → property w → WordsAre s property f
      → WordsAre s property (record { coefficient = c; key = w } ∷ f)
  more_are c w f l h x n = go (key_dec same_word IsWordLess word_laws x w)
    where
      go : (x ≡ w) ⊎ (x ≢ w) → property x
      go (inl e) = subst property (sym e) l
      go (inr m) =
          h x (λ z. n (subst (IsZero s.prime)
          (sym (omega (arith, ap (λ k. c * k) (at_other same_word IsWordLess word_laws x w m))))
          z))

  -- a multiple, where the property can be decided
  pub times_are : ((w : Word) → Decided (property w)) → (u : Word) (f : Polynomial) (v : Word)
      → ((w : Word) → ¬ IsZero s.prime (coefficient f w) → property (u ++ (w ++ v)))
      → WordsAre s property (polynomial_times u f v)
  times_are dec u f v h x n = go (dec x)
    where
      each : ¬ property x → (w : Word) → IsZero s.prime (coefficient f w)
          ⊎ IsZero s.prime (is_at same_word x (u ++ (w ++ v)))
      each m w =
          elim (zero_dec s.prime (coefficient f w)) [
            | inl z ↦ inl z
            | inr nz ↦ inr
                (subst (IsZero s.prime) (sym (at_other same_word IsWordLess word_laws x
                (u ++ (w ++ v))
                (λ e. m (subst property (sym e) (h w nz))))) (zero_number s.prime))
          ]

      go : Decided (property x) → property x
      go (inl p) = p
      go (inr m) =
          absurd (n (subst (IsZero s.prime)
          (sym (linear_sum-map_keys (is_at same_word x) (λ w. u ++ (w ++ v)) f))
          (linear_sum_zero same_word IsWordLess word_laws s.prime
          (λ w. is_at same_word x (u ++ (w ++ v))) f (each m))))
