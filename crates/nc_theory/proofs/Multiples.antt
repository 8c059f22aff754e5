-- The words of a multiple of an entry, with a signature within the limit, are small.
use Rattle.nc_algebra.proofs.Leading.{leading-normal}
use Rattle.nc_algebra.proofs.Words.{weight-append}
use Rattle.nc_algebra.specs.Elements.{Setting}
use Rattle.nc_algebra.specs.Finite.{AreLetters}
use Rattle.nc_algebra.specs.Monomials.{Monomial, times}
use Rattle.nc_algebra.specs.Polynomials.{IsNormal, Polynomial, leading, polynomial_times}
use Rattle.nc_algebra.specs.Words.{Word}
use Rattle.nc_theory.proofs.Quotients.{multiple_fits}
use Rattle.nc_theory.proofs.Small.{few_letters, letters-append, letters_back, letters_front, multiple_small, usable_lead}
use Rattle.nc_theory.specs.Usable.{HasSmallWords, IsSmall, IsUsable, IsUsableSignature}
use Rattle.nc_theory.specs.States.{Entry}
use Rattle.std.proofs.Common.{[], ap, arith, length, refl, subst, sym, ◌+◌, ◌++◌, ◌∙◌, ◌∷◌, ◌≡◌, ◌≤◌}
use Rattle.std.specs.List.{All}

module _ (s : Setting) (τ : Monomial) (limit : IsUsableSignature s τ) (u v : Word) (e : Entry)
    (usable : IsUsable s e) (signed : times u e.signature v ≡ τ) where
  stands_small : IsSmall (u ++ (leading s.prime e.polynomial ++ v))
  stands_small = (
    omega (
      arith,
      multiple_fits s e τ u v (leading s.prime e.polynomial) usable limit signed refl,
      weight-append u (leading s.prime e.polynomial ++ v),
      weight-append (leading s.prime e.polynomial) v,
    ),
    letters-append 64 100 u (leading s.prime e.polynomial ++ v)
        (letters_front 64 100 u e.signature.left
        (subst (AreLetters 64 100) (sym (ap (λ σ. σ.left) signed)) limit.left))
        (letters-append 64 100 (leading s.prime e.polynomial) v
        (usable.letters (leading s.prime e.polynomial) (usable_lead s e usable).nonzero)
        (letters_back 64 100 e.signature.right v
        (subst (AreLetters 64 100) (sym (ap (λ σ. σ.right) signed)) limit.right))),
  )

  pub shifted_small : HasSmallWords s (polynomial_times u e.polynomial v)
  shifted_small =
      multiple_small s u v (u ++ (leading s.prime e.polynomial ++ v)) e.polynomial usable.letters
      (usable_lead s e usable) refl stands_small

  pub shifted_few : All (λ t. length u + length t.key + length v ≤ 200000) e.polynomial
  shifted_few = go e.polynomial refl
    where
      go : (f : Polynomial) → e.polynomial ≡ f
          → All (λ t. length u + length t.key + length v ≤ 200000) f
      go [] i = absurd (usable.some i)
      go (t ∷ f) i =
          let n : IsNormal s.prime (t ∷ f) = subst (IsNormal s.prime) i usable.normal in
          few_letters u v t f 200000 n.0.1
          (multiple_fits s e τ u v t.key usable limit signed
          (ap (leading s.prime) i ∙ leading-normal s.prime t f n))
