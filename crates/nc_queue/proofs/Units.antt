-- The units within a bound, generator by generator.
use Rattle.nc_algebra.specs.Elements.{generator_weight}
use Rattle.nc_algebra.specs.Monomials.{Sig, sig_of, unit_monomial}
use Rattle.nc_algebra.specs.Problems.{IsWithin, Problem}
use Rattle.nc_algebra.specs.Words.{Word, word_weight}
use Rattle.nc_queue.specs.Queues.{IsUnitAt, IsUnitTo, IsUnitWithin, IsWith, IsWithUnit}
use Rattle.std.proofs.Common.{Contains, List, [], arith, inl, inr, length, subst, sym, ℕ, ◌+◌, ◌≡◌, ◌≤◌, ◌↔◌, ◌∙◌, ◌⊎◌}

module _ (P : Problem) where
  pub units_none : (σ : Sig) → Contains [] σ ↔ IsUnitTo P 0 σ
  units_none σ = (λ c. absurd (omega (arith, c.1)), λ u. absurd (omega (arith, u.1, u.2.0.0.0)))

  last : (n i : ℕ) → i ≤ n + 1 → (i ≤ n) ⊎ (i ≡ n + 1)
  last n i l = grind arith

  more : (n : ℕ) (σ : Sig) → IsUnitTo P n σ → IsUnitTo P (n + 1) σ
  more n σ u = (u.0, omega (arith, u.1), u.2)

  fewer : (n : ℕ) (σ : Sig) → IsUnitTo P (n + 1) σ → IsUnitTo P n σ ⊎ IsUnitAt P (n + 1) σ
  fewer n σ u = go (last n u.0 u.1)
    where
      go : (u.0 ≤ n) ⊎ (u.0 ≡ n + 1) → IsUnitTo P n σ ⊎ IsUnitAt P (n + 1) σ
      go (inl l) = inl (u.0, l, u.2)
      go (inr e) = inr (subst (λ i. IsUnitAt P i σ) e u.2)

  pub units_more : (n : ℕ) (old new : List Sig) → IsWithUnit P (n + 1) old new
      → ((σ : Sig) → Contains old σ ↔ IsUnitTo P n σ) → (σ : Sig) → Contains new σ
      ↔ IsUnitTo P (n + 1) σ
  units_more n old new w h σ = (λ c. there ((w σ).0 c), λ u. (w σ).1 (back (fewer n σ u)))
    where
      there : Contains old σ ⊎ IsUnitAt P (n + 1) σ → IsUnitTo P (n + 1) σ
      there (inl c) = more n σ ((h σ).0 c)
      there (inr u) = (n + 1, omega arith, u)

      back : IsUnitTo P n σ ⊎ IsUnitAt P (n + 1) σ → Contains old σ ⊎ IsUnitAt P (n + 1) σ
      back (inl u) = inl ((h σ).1 u)
      back (inr u) = inr u

  pub units_all : (n : ℕ) (old : List Sig) → length P.setting.generators ≤ n
      → ((σ : Sig) → Contains old σ ↔ IsUnitTo P n σ) → (σ : Sig) → Contains old σ
      ↔ IsUnitWithin P σ
  units_all n old l h σ =
      (λ c. let u = (h σ).0 c in (u.0, u.2), λ u. (h σ).1 (u.0, omega (arith, u.1.0.0.1), u.1))

  -- ---- one generator

  pub unit_added : (i : ℕ) (τ : Sig) (old new : List Sig)
      → τ ≡ sig_of (generator_weight P.setting) (unit_monomial i) → IsWithin P (unit_monomial i)
      → IsWith old τ new → IsWithUnit P i old new
  unit_added i τ old new e b w = λ σ. (λ c. there σ ((w σ).0 c), λ c. (w σ).1 (back σ c))
    where
      there : (σ : Sig) → Contains old σ ⊎ (σ ≡ τ) → Contains old σ ⊎ IsUnitAt P i σ
      there σ (inl c) = inl c
      there σ (inr d) = inr (b, d ∙ e)

      back : (σ : Sig) → Contains old σ ⊎ IsUnitAt P i σ → Contains old σ ⊎ (σ ≡ τ)
      back σ (inl c) = inl c
      back σ (inr u) = inr (u.1 ∙ sym e)

  pub unit_sig : (weight i : ℕ) (u v : Word) (τ : Sig)
      → τ ≡ record {
        degree = word_weight u + weight + word_weight v;
        generator = i;
        left = u;
        right = v;
      } → u ≡ [] → v ≡ []
      → weight ≡ generator_weight P.setting i
      → τ ≡ sig_of (generator_weight P.setting) (unit_monomial i)
  unit_sig weight i u v τ e l r w =
      e ∙ (λ x. record {
        degree = word_weight (l x) + w x + word_weight (r x);
        generator = i;
        left = l x;
        right = r x;
      })
