-- One turn of a loop that reduces, as a step of `ReducedTo`, the loop's invariant.
-- The loop subtracts (`reduced_subtract`) or keeps (`reduced_keep`), and each time the leading word
-- falls (`lead_falls`).
use Rattle.nc_algebra.proofs.Words.{word_total}
use Rattle.nc_algebra.specs.Elements.{IsLeadingWord, IsZeroPolynomial, Setting}
use Rattle.nc_algebra.specs.Monomials.{Monomial}
use Rattle.nc_algebra.specs.Polynomials.{Polynomial, coefficient, leading}
use Rattle.nc_algebra.specs.Primes.{IsZero}
use Rattle.nc_algebra.specs.Sums.{minus}
use Rattle.nc_algebra.specs.Words.{IsWordLess, Word}
use Rattle.nc_theory.proofs.Reductions.{From}
use Rattle.nc_theory.specs.Divisors.{Divisor, IsChosenDivisor, multiple_at, number_of, signature_at}
use Rattle.nc_theory.specs.Reductions.{Reduction}
use Rattle.nc_theory.specs.States.{Entry, Step}
use Rattle.std.proofs.Common.{List, [], append-nil, append_assoc, inl, inr, subst, subst₂, sym, ℕ, ◌%◌, ◌*◌, ◌++◌, ◌<◌, ◌∷◌, ◌≡◌, ◌⊎◌}

-- what h's reduction keeps and subtracts goes on from what was kept and subtracted of f. This is
-- what a loop needs; `Passes` of the specs says that h is on the way
abbrev pub ReducedTo : (s : Setting) (entries : List Entry) (set : Monomial → Type 0) → Polynomial
    → Polynomial → List Step → Polynomial → Type 0
ReducedTo s entries set f kept steps h =
    (more : Polynomial) (last : List Step) → Reduction s entries set h more last
    → Reduction s entries set f (kept ++ more) (steps ++ last)

module _ (s : Setting) (entries : List Entry) (set : Monomial → Type 0) (f kept : Polynomial)
    (steps : List Step) (h : Polynomial) where
  pub reduced_subtract : ReducedTo s entries set f kept steps h → (w : Word) → IsLeadingWord s h w
      → (d : Divisor s entries w) → IsChosenDivisor s entries set w d → (c : ℕ) → c < s.prime
      → c * coefficient d.entry.polynomial (leading s.prime d.entry.polynomial) % s.prime
      ≡ coefficient h w % s.prime → ReducedTo s entries set f kept
      (steps ++ (record {
        coefficient = c;
        left = d.left;
        number = number_of s entries w d;
        right = d.right;
      } ∷ []))
      (minus s.prime h c (multiple_at s entries w d))
  reduced_subtract to w l d chosen c small q more last r =
      subst (Reduction s entries set f (kept ++ more))
      (sym (append_assoc steps (record {
        coefficient = c;
        left = d.left;
        number = number_of s entries w d;
        right = d.right;
      } ∷ []) last))
      (to more (record {
        coefficient = c;
        left = d.left;
        number = number_of s entries w d;
        right = d.right;
      } ∷ last)
      (Reduction.subtract w l d chosen c small q r))

  pub reduced_keep : ReducedTo s entries set f kept steps h → (w : Word) → IsLeadingWord s h w
      → ((d : Divisor s entries w) → ¬ set (signature_at s entries w d)) → (c : ℕ)
      → c ≡ coefficient h w % s.prime
      → ReducedTo s entries set f (kept ++ (record { coefficient = c; key = w } ∷ [])) steps
      (minus s.prime h 1 (record { coefficient = c; key = w } ∷ []))
  reduced_keep to w l none c e more last r =
      subst (λ k. Reduction s entries set f k (steps ++ last))
      (sym (append_assoc kept (record { coefficient = c; key = w } ∷ []) more))
      (to (record { coefficient = c; key = w } ∷ more) last (Reduction.keep w l none c e r))

  pub reduced_end : ReducedTo s entries set f kept steps h → IsZeroPolynomial s h
      → Reduction s entries set f kept steps
  reduced_end to n =
      subst₂ (Reduction s entries set f) (append-nil kept) (append-nil steps)
      (to [] [] (Reduction.finished n))

-- the greatest word falls, once nothing stands from the old one on
pub lead_falls : (s : Setting) (h : Polynomial) (w v : Word)
    → ((x : Word) → From w x → IsZero s.prime (coefficient h x)) → IsLeadingWord s h v
    → IsWordLess v w
lead_falls s h w v z d = go (word_total v w)
  where
    go : IsWordLess v w ⊎ ((v ≡ w) ⊎ IsWordLess w v) → IsWordLess v w
    go (inl l) = l
    go (inr (inl e)) = absurd (d.nonzero (z v (inl e)))
    go (inr (inr l)) = absurd (d.nonzero (z v (inr l)))
