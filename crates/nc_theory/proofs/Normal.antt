-- What a reduction keeps is in normal form.
use Rattle.nc_algebra.proofs.NormalForms.{normal_leads}
use Rattle.nc_algebra.proofs.Words.{word_total, word_trans}
use Rattle.nc_algebra.specs.Elements.{IsZeroPolynomial, Setting}
use Rattle.nc_algebra.specs.Monomials.{Monomial}
use Rattle.nc_algebra.specs.Polynomials.{AllLess, IsDescending, IsNormal, Polynomial, coefficient}
use Rattle.nc_algebra.specs.Primes.{IsField, IsZero}
use Rattle.nc_algebra.specs.Words.{IsWordLess, Word}
use Rattle.nc_theory.proofs.Reductions.{From, from_up, keep_whole, kept_up, single_over, take_off}
use Rattle.nc_theory.specs.Reductions.{Reduction}
use Rattle.nc_theory.specs.States.{Entry, Step}
use Rattle.std.proofs.Common.{Contains, List, [], arith, inl, inr, subst, suc, sym, zero, ℕ, ◌%◌, ◌<◌, ◌∷◌, ◌≡◌, ◌⊎◌}
use Rattle.std.proofs.Math.Nat.{mod-lt}
use Rattle.std.proofs.lemmas.List.Elements.{All-from_recursion}
use Rattle.std.specs.List.{AllByRecursion}

module _ (s : Setting) (field : IsField s.prime) (entries : List Entry) (nonzero : (e : Entry)
    → Contains entries e → ¬ IsZeroPolynomial s e.polynomial) (set : Monomial → Type 0) where
  -- in normal form, with the residues listed by recursion
  Kept : Polynomial → Type 0
  Kept f = IsDescending f × AllByRecursion (λ t. t.coefficient < s.prime) f

  all_less : (w : Word) (kept : Polynomial) → Kept kept
      → ((x : Word) → From w x → IsZero s.prime (coefficient kept x)) → AllLess w kept
  unfolding Kept
  all_less w [] n z = tt
  all_less w (t ∷ kept) n z = (first, rest kept n.0.1)
    where
      first : IsWordLess t.key w
      first = go (word_total t.key w)
        where
          go : IsWordLess t.key w ⊎ ((t.key ≡ w) ⊎ IsWordLess w t.key) → IsWordLess t.key w
          go (inl l) = l
          go (inr (inl e)) =
              absurd ((normal_leads s.prime t kept n.0 n.1.0).nonzero (z t.key (inl e)))
          go (inr (inr l)) =
              absurd ((normal_leads s.prime t kept n.0 n.1.0).nonzero (z t.key (inr l)))

      rest : (g : Polynomial) → AllLess t.key g → AllLess w g
      rest [] a = tt
      rest (u ∷ g) a = (word_trans u.key t.key w a.0 first, rest g a.1)

  kept_is : {f kept : Polynomial} {steps : List Step} → Reduction s entries set f kept steps
      → Kept kept
  unfolding Kept
  kept_is (Reduction.finished n) = (tt, tt)
  kept_is (Reduction.subtract w d v chosen c small q rest) = kept_is rest
  kept_is (Reduction.keep {f = f} {kept = kept} w d any c e rest) = go (kept_is rest)
    where
      positive : (n : ℕ) → n ≡ coefficient f w % s.prime → 0 < n
      positive zero i = absurd (d.nonzero (sym i))
      positive (suc n) i = omega arith

      go : Kept kept → Kept (record { coefficient = c; key = w } ∷ kept)
      go k = (
        (
          positive c e,
          all_less w kept k
              (kept_up s field entries nonzero set (From w) (from_up w) rest
              (take_off s field entries nonzero set f w d 1
              (record { coefficient = c; key = w } ∷ [])
              (single_over s field entries nonzero set c w)
              (keep_whole s field entries nonzero set f w c e))),
          k.0,
        ),
        (
          subst (λ n. n < s.prime) (sym e)
              (mod-lt (coefficient f w) (omega (arith, field.above_one))),
          k.1,
        ),
      )

  pub kept_normal : {f kept : Polynomial} {steps : List Step} → Reduction s entries set f kept steps
      → IsNormal s.prime kept
  unfolding Kept
  kept_normal {kept = kept} r =
      let k : Kept kept =
      kept_is r in (k.0, All-from_recursion (λ t. t.coefficient < s.prime) kept k.1)
