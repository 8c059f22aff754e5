-- Divisors of monomials, and the best multiple.
-- A later multiple is better only where its word is less. So the best one of a set of multiples and
-- that of the next entry are known by one comparison (`better_step`). `IsWithNext` says what the
-- longer set is, for all entries and for a range of them.
use Rattle.nc_algebra.proofs.Monomials.{degree-times}
use Rattle.nc_algebra.proofs.Words.{word_less_complete, word_less_sound, word_total, word_trans}
use Rattle.nc_algebra.specs.Elements.{Setting, degree, generator_weight}
use Rattle.nc_algebra.specs.Monomials.{Monomial, times}
use Rattle.nc_algebra.specs.Polynomials.{leading}
use Rattle.nc_algebra.specs.Words.{IsWordLess, Word, compare_words, word_weight}
use Rattle.nc_theory.proofs.Small.{usable_lead}
use Rattle.nc_theory.specs.Best.{IsMultipleAt, IsBestIn, best_of}
use Rattle.nc_theory.specs.Found.{Best}
use Rattle.nc_theory.specs.Usable.{IsUsable, IsUsableSignature}
use Rattle.nc_theory.proofs.Determinism.{one_multiple}
use Rattle.nc_theory.specs.Divisors.{Divisor, number_of, signature_at}
use Rattle.nc_theory.specs.States.{Entry}
use Rattle.std.proofs.Common.{Bool, List, None, Option, Some, ap, arith, cond, false, get_or, inl, inr, length, refl, subst, sym, true, ℕ, ◌+◌, ◌++◌, ◌<◌, ◌∙◌, ◌≡◌, ◌≤◌, ◌⊎◌}
use Rattle.std.proofs.lemmas.Bool.{false≢true}
use Rattle.std.specs.Ordering.{is_lt}

-- the words around an entry's leading word in a multiple at τ have few letters
pub multiple_fits : (s : Setting) (e : Entry) (τ : Monomial) (u v l : Word) → IsUsable s e
    → IsUsableSignature s τ → times u e.signature v ≡ τ → leading s.prime e.polynomial ≡ l
    → word_weight u + word_weight l + word_weight v ≤ 200000
multiple_fits s e τ u v l usable limit spells lead =
    omega (
      arith,
      limit.limited,
      ap (degree s) spells,
      degree-times (generator_weight s) u v e.signature,
      usable.light (leading s.prime e.polynomial) (usable_lead s e usable).nonzero,
      ap word_weight lead,
    )

module _ (s : Setting) (entries : List Entry) (τ : Monomial) where
  -- the multiple of an entry that is read
  pub at_found : (n : ℕ) (e : Entry) (b : Best) → n < length entries → e ≡ get_or entries n e
      → times b.left e.signature b.right ≡ τ
      → b.word ≡ b.left ++ (leading s.prime e.polynomial ++ b.right) → b.number ≡ n + 1
      → IsMultipleAt s entries τ n (Some b)
  at_found n e b h is signed spells m = (
    record {
      entry = e;
      listed = (n, h, sym is);
      left = b.left;
      right = b.right;
      spells = sym spells;
    },
    signed,
    refl,
    refl,
    sym m,
    refl,
  )

  one_word : (w v : Word) (d : Divisor s entries w) (e : Divisor s entries v)
      → signature_at s entries w d ≡ τ → signature_at s entries v e ≡ τ → d.listed.0 ≡ e.listed.0
      → w ≡ v
  one_word w v d e i j k = (one_multiple s entries τ w v d e i j k).0

  -- a set of multiples, and the same set with that of the entry at n
  pub record IsWithNext (n : ℕ) (old new : (w : Word) → Divisor s entries w → Type 0) : Type 0 where
    pub signed : (w : Word) (d : Divisor s entries w) → new w d → signature_at s entries w d ≡ τ
    pub earlier : (w : Word) (d : Divisor s entries w) → old w d → d.listed.0 < n
    pub more : (w : Word) (d : Divisor s entries w) → old w d → new w d
    pub here : (w : Word) (d : Divisor s entries w) → signature_at s entries w d ≡ τ
        → d.listed.0 ≡ n → new w d
    pub either : (w : Word) (d : Divisor s entries w) → new w d → old w d ⊎ (d.listed.0 ≡ n)

  module _ (n : ℕ) (old new : (w : Word) → Divisor s entries w → Type 0) (x : IsWithNext n old new)
    where
      abbrev IsNoGreater : (w : Word) → Divisor s entries w → (v : Word) → Divisor s entries v
          → Type 0
      IsNoGreater w d v e =
          IsWordLess w v ⊎ ((w ≡ v) × (number_of s entries w d ≤ number_of s entries v e))

      -- the better one of the best of the set and the multiple of the next entry
      pub better_step : (best next : Option Best) → IsBestIn s entries old best
          → IsMultipleAt s entries τ n next → IsBestIn s entries new (best_of best next)
      better_step None None p q = λ w d m. go w d m (x.either w d m)
        where
          go : (w : Word) (d : Divisor s entries w) → new w d → old w d ⊎ (d.listed.0 ≡ n) → ⊥
          go w d m (inl k) = p w d k
          go w d m (inr k) = q w d (x.signed w d m) k
      better_step None (Some b) p q =
          (q.0, x.here b.word q.0 q.1 q.2, λ v e m. go v e m (x.either v e m), q.3, q.4, q.5)
        where
          go : (v : Word) (e : Divisor s entries v) → new v e → old v e ⊎ (e.listed.0 ≡ n)
              → IsNoGreater b.word q.0 v e
          go v e m (inl k) = absurd (p v e k)
          go v e m (inr k) =
              inr (
                one_word b.word v q.0 e q.1 (x.signed v e m) (q.2 ∙ sym k),
                omega (arith, q.2, k),
              )
      better_step (Some a) None p q =
          (p.0, x.more a.word p.0 p.1, λ v e m. go v e m (x.either v e m), p.3, p.4, p.5)
        where
          go : (v : Word) (e : Divisor s entries v) → new v e → old v e ⊎ (e.listed.0 ≡ n)
              → IsNoGreater a.word p.0 v e
          go v e m (inl k) = p.2 v e k
          go v e m (inr k) = absurd (q v e (x.signed v e m) k)
      better_step (Some a) (Some b) p q = pick (is_lt (compare_words b.word a.word)) refl
        where
          newer : IsWordLess b.word a.word → (v : Word) (e : Divisor s entries v) → new v e
              → old v e
              ⊎ (e.listed.0 ≡ n) → IsNoGreater b.word q.0 v e
          newer l v e m (inl k) = over (p.2 v e k)
            where
              over : IsNoGreater a.word p.0 v e → IsNoGreater b.word q.0 v e
              over (inl g) = inl (word_trans b.word a.word v l g)
              over (inr g) = inl (subst (IsWordLess b.word) g.0 l)
          newer l v e m (inr k) =
              inr (
                one_word b.word v q.0 e q.1 (x.signed v e m) (q.2 ∙ sym k),
                omega (arith, q.2, k),
              )

          older : ¬ IsWordLess b.word a.word → (v : Word) (e : Divisor s entries v) → new v e
              → old v e ⊎ (e.listed.0 ≡ n) → IsNoGreater a.word p.0 v e
          older not v e m (inl k) = p.2 v e k
          older not v e m (inr k) = order (word_total a.word b.word)
            where
              same : b.word ≡ v
              same = one_word b.word v q.0 e q.1 (x.signed v e m) (q.2 ∙ sym k)

              order : IsWordLess a.word b.word ⊎ ((a.word ≡ b.word) ⊎ IsWordLess b.word a.word)
                  → IsNoGreater a.word p.0 v e
              order (inl l) = inl (subst (IsWordLess a.word) same l)
              order (inr (inl i)) = inr (i ∙ same, omega (arith, x.earlier a.word p.0 p.1, k))
              order (inr (inr l)) = absurd (not l)

          pick : (c : Bool) → is_lt (compare_words b.word a.word) ≡ c
              → IsBestIn s entries new (cond c (Some b) (Some a))
          pick true i = (
            q.0,
            x.here b.word q.0 q.1 q.2,
            λ v e m. newer (word_less_sound b.word a.word i) v e m (x.either v e m),
            q.3,
            q.4,
            q.5,
          )
          pick false i = (
            p.0,
            x.more a.word p.0 p.1,
            λ v e m. older
                (λ l. false≢true (sym i ∙ word_less_complete b.word a.word l)) v e m
                (x.either v e m),
            p.3,
            p.4,
            p.5,
          )
