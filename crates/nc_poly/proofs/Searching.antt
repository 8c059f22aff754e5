-- A search for a word in a list whose words descend.
use Rattle.nc_algebra.proofs.NormalForms.{first_coefficient, other_coefficient}
use Rattle.nc_algebra.proofs.Orders.{compare_greater, nat_order}
use Rattle.nc_algebra.proofs.Words.{word_irrefl, word_trans, words_compare}
use Rattle.nc_algebra.specs.Polynomials.{AllLess, IsDescending, Polynomial, coefficient}
use Rattle.nc_algebra.specs.Sums.{Term}
use Rattle.nc_algebra.specs.Words.{IsWordLess, Word, compare_words}
use Rattle.std.proofs.Common.{Equal, Err, Greater, Less, Ok, Ordering, [], ap, arith, get_or, inl, inr, length, refl, subst, suc, sym, zero, ℕ, ◌<◌, ◌∙◌, ◌∷◌, ◌≡◌, ◌≢◌, ◌≤◌, ◌⊎◌}
use Rattle.std.specs.List.Sorted.{IsBinarySearchResult, IsNonDecreasingBy}
use Rattle.std.specs.Ordering.{MatchOrdering, ordering_index}

-- the comparison with a term that the search makes
abbrev pub beside : Word → Term Word → Ordering
beside w t = compare_words w t.key

less_at : (w : Word) (f : Polynomial) → AllLess w f → (i : ℕ) (d : Term Word) → i < length f
    → IsWordLess (get_or f i d).key w
less_at w [] a i d l = absurd (omega arith)
less_at w (t ∷ f) a zero d l = a.0
less_at w (t ∷ f) a (suc i) d l = less_at w f a.1 i d (omega arith)

descends_at : (f : Polynomial) → IsDescending f → (i j : ℕ) (d : Term Word) → i < j → j < length f
    → IsWordLess (get_or f j d).key (get_or f i d).key
descends_at [] h i j d l m = absurd (omega arith)
descends_at (t ∷ f) h i zero d l m = absurd (omega arith)
descends_at (t ∷ f) h zero (suc j) d l m = less_at t.key f h.1 j d (omega arith)
descends_at (t ∷ f) h (suc i) (suc j) d l m = descends_at f h.2 i j d (omega arith) (omega arith)

module _ (w : Word) where
  greater : (v : Word) → IsWordLess v w → compare_words w v ≡ Greater
  greater v l = compare_greater compare_words IsWordLess words_compare word_irrefl word_trans w v l

  rises_pair : (x y : Word) → IsWordLess y x
      → ordering_index (compare_words w x) ≤ ordering_index (compare_words w y)
  rises_pair x y l = go (compare_words w x) (words_compare w x)
    where
      go : (o : Ordering) → MatchOrdering o (IsWordLess w x) (w ≡ x) (IsWordLess x w)
          → ordering_index o ≤ ordering_index (compare_words w y)
      go Less m = omega arith
      go Equal m = omega (arith, ap ordering_index (greater y (subst (IsWordLess y) (sym m) l)))
      go Greater m = omega (arith, ap ordering_index (greater y (word_trans y x w l m)))

  rises : (f : Polynomial) → IsDescending f → IsNonDecreasingBy (λ t. ordering_index (beside w t)) f
  rises f h i j d l m = go (nat_order i j)
    where
      go : (i < j) ⊎ ((i ≡ j) ⊎ (j < i))
          → ordering_index (beside w (get_or f i d)) ≤ ordering_index (beside w (get_or f j d))
      go (inl k) = rises_pair (get_or f i d).key (get_or f j d).key (descends_at f h i j d k m)
      go (inr (inl e)) = omega (arith, ap (λ k. ordering_index (beside w (get_or f k d))) e)
      go (inr (inr k)) = absurd (omega arith)

  differs : (x : Word) (o : Ordering) → compare_words w x ≡ o → o ≢ Equal → w ≢ x
  differs x o e n i = n (sym e ∙ subst (λ y. compare_words w y ≡ Equal) i same)
    where
      same : compare_words w w ≡ Equal
      same = go (compare_words w w) (words_compare w w)
        where
          go : (o : Ordering) → MatchOrdering o (IsWordLess w w) (w ≡ w) (IsWordLess w w)
              → o ≡ Equal
          go Less m = absurd (word_irrefl w m)
          go Equal m = refl
          go Greater m = absurd (word_irrefl w m)

  nowhere : (f : Polynomial) → ((i : ℕ) (d : Term Word) → i < length f → w ≢ (get_or f i d).key)
      → coefficient f w ≡ 0
  nowhere [] h = refl
  nowhere (t ∷ f) h =
      other_coefficient t f w (h 0 t (omega arith)) ∙ nowhere f (λ i d l. h (suc i) d (omega arith))

  at_place : (f : Polynomial) → IsDescending f → (i : ℕ) (d : Term Word) → i < length f
      → w ≡ (get_or f i d).key → coefficient f w ≡ (get_or f i d).coefficient
  at_place [] h i d l e = absurd (omega arith)
  at_place (t ∷ f) h zero d l e = ap (coefficient (t ∷ f)) e ∙ first_coefficient t f h.1
  at_place (t ∷ f) h (suc i) d l e =
      other_coefficient t f w (λ k. word_irrefl t.key
      (subst (λ y. IsWordLess y t.key) (sym e ∙ k) (less_at t.key f h.1 i d (omega arith))))
      ∙ at_place f h.2 i d (omega arith) e

  -- what the search finds
  pub found : (f : Polynomial) → IsDescending f → (i : ℕ) → i < length f
      → IsBinarySearchResult (beside w) f (Ok i) → (t : Term Word) → t ≡ get_or f i t
      → t.coefficient ≡ coefficient f w
  found f h i l r t e =
      ap (λ (u : Term Word). u.coefficient) e
      ∙ sym (at_place f h i t l (equal (compare_words w (get_or f i t).key)
      (words_compare w (get_or f i t).key) (r t)))
    where
      equal : (o : Ordering) → MatchOrdering o (IsWordLess w (get_or f i t).key)
          (w ≡ (get_or f i t).key) (IsWordLess (get_or f i t).key w) → o ≡ Equal
          → w ≡ (get_or f i t).key
      equal Less m k = absurd (cc)
      equal Equal m k = m
      equal Greater m k = absurd (cc)

  -- where it finds nothing
  pub missed : (f : Polynomial) → IsDescending f → (i : ℕ)
      → IsBinarySearchResult (beside w) f (Err i) → coefficient f w ≡ 0
  missed f h i r = nowhere f (λ j d l. apart j d l (nat_order j i))
    where
      apart : (j : ℕ) (d : Term Word) → j < length f → (j < i) ⊎ ((j ≡ i) ⊎ (i < j))
          → w ≢ (get_or f j d).key
      apart j d l (inl k) =
          differs (get_or f j d).key Less ((r (rises f h)).0 j d (omega arith) k) (λ e. cc)
      apart j d l (inr (inl k)) =
          differs (get_or f j d).key Greater ((r (rises f h)).1 j d (omega arith) l) (λ e. cc)
      apart j d l (inr (inr k)) =
          differs (get_or f j d).key Greater ((r (rises f h)).1 j d (omega arith) l) (λ e. cc)
