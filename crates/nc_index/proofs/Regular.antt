-- Places of one pair's word.
-- All places give one degree (`degree_at`), and of two places the left one has the lesser signature
-- (`leftmost`). So a pair is settled by its degree (`first_of_all`, `none_regular`), and only where
-- the degrees are equal the leftmost place is tested (`first_decides`, `none_decides`).
use Rattle.nc_algebra.proofs.Orders.{nat_order}
use Rattle.nc_algebra.proofs.Words.{cut, length_at_most, weight-append}
use Rattle.nc_algebra.specs.Monomials.{Sig, compare_sigs, sig_times}
use Rattle.nc_algebra.specs.Words.{OccursAt, Word, compare_letters, compare_words, word_weight}
use Rattle.nc_index.specs.Pairs.{HasRegularAfter, IsFirstPlace, IsFirstRegular, IsRegular, Lead, RegularAt, RegularPlace}
use Rattle.nc_index.specs.declared.hit.Hit.{Hit}
use Rattle.nc_sig.specs.Orders.{sigs_order}
use Rattle.nc_words.specs.Places.{IsPlaceFrom}
use Rattle.std.proofs.Common.{◌≡◌, List, refl, ℕ, ◌+◌, ◌<◌, ◌≤◌, ◌++◌, length, ap, sym, ◌∙◌, arith, None, Some, Option, Less, Equal, Greater, length-append, subst, ◌⊎◌, inl, inr}
use Rattle.std.proofs.lemmas.Cmp.{ranked}
use Rattle.std.proofs.lemmas.Option.{slice_get_within}
use Rattle.std.specs.List.{slice_get}
use Rattle.std.specs.Cmp.{nat_cmp_is}
use Rattle.std.specs.Cmp.Lexicographic.{slice_cmp}
use Rattle.std.specs.Ordering.{nat_cmp, on, ordering_then, then_cmp}

module _ (l : Lead) (w : Word) (β : Sig) where
  pub regular_occurs : (q : ℕ) → RegularPlace l w β q → OccursAt l.word w q
  regular_occurs q (u, v, r, h) = (u, v, sym r.spells, h)

  -- all places give one degree
  pub degree_at : (u v : Word) → u ++ (l.word ++ v) ≡ w
      → (sig_times u l.signature v).degree + word_weight l.word ≡ word_weight w + l.signature.degree
  degree_at u v e =
      omega (arith, ap word_weight e, weight-append u (l.word ++ v), weight-append l.word v)

  lesser : (s : Sig) → s.degree < β.degree → compare_sigs s β ≡ Less
  lesser s h =
      ap (λ o. ordering_then o (then_cmp (on (λ t. t.generator) nat_cmp)
      (then_cmp (on (λ t. t.left) compare_words) (on (λ t. t.right) compare_words)) s β))
      (sym (nat_cmp_is s.degree β.degree Less h))

  greater : (s : Sig) → β.degree < s.degree → compare_sigs s β ≡ Greater
  greater s h =
      ap (λ o. ordering_then o (then_cmp (on (λ t. t.generator) nat_cmp)
      (then_cmp (on (λ t. t.left) compare_words) (on (λ t. t.right) compare_words)) s β))
      (sym (nat_cmp_is s.degree β.degree Greater h))

  -- where it is less than the bound's, each place will do
  all_regular : word_weight w + l.signature.degree < β.degree + word_weight l.word → (q : ℕ)
      → OccursAt l.word w q → RegularPlace l w β q
  all_regular less q (u, v, e, h) = (
    u,
    v,
    record {
      spells = sym e;
      below = lesser (sig_times u l.signature v) (omega (arith, degree_at u v (sym e), less));
    },
    h,
  )

  pub first_of_all : (n : ℕ) → n ≡ word_weight w
      → Less ≡ nat_cmp (n + l.signature.degree) (β.degree + word_weight l.word) → (a : Option ℕ)
      → IsPlaceFrom l.word w 0 a → IsFirstPlace l w β a
  first_of_all n weight less a found = go a found
    where
      lighter : word_weight w + l.signature.degree < β.degree + word_weight l.word
      lighter =
          omega (
            arith,
            weight,
            ranked (n + l.signature.degree) (β.degree + word_weight l.word) Less
                less,
          )

      go : (a : Option ℕ) → IsPlaceFrom l.word w 0 a → IsFirstPlace l w β a
      go None none = λ q h. none q (omega arith) (regular_occurs q h)
      go (Some q) found =
          (all_regular lighter q found.1, λ r h. found.2 r (omega arith) (regular_occurs r h))

  -- where it is greater, none will
  pub none_regular : (n : ℕ) → n ≡ word_weight w
      → Greater ≡ nat_cmp (n + l.signature.degree) (β.degree + word_weight l.word)
      → IsFirstPlace l w β None
  none_regular n weight more q (u, v, r, h) =
      let heavier : β.degree + word_weight l.word < n + l.signature.degree =
      ranked (n + l.signature.degree) (β.degree + word_weight l.word) Greater more in
      let above : compare_sigs (sig_times u l.signature v) β ≡ Greater =
      greater (sig_times u l.signature v)
      (omega (arith, degree_at u v r.spells, weight, heavier)) in
      let below : compare_sigs (sig_times u l.signature v) β ≡ Less = r.below in
      cc

  -- of two places the left one has the lesser signature
  lesser_left : (u v x y : Word) → u ++ (l.word ++ v) ≡ w → x ++ (l.word ++ y) ≡ w
      → length u < length x → compare_sigs (sig_times u l.signature v) (sig_times x l.signature y)
      ≡ Less
  lesser_left u v x y e d h =
      ap (λ o. ordering_then o (ordering_then (nat_cmp l.signature.generator l.signature.generator)
      (ordering_then (compare_words (u ++ l.signature.left) (x ++ l.signature.left))
      (compare_words (l.signature.right ++ v) (l.signature.right ++ y)))))
      (equal (sig_times u l.signature v).degree (sig_times x l.signature y).degree
      (omega (arith, degree_at u v e, degree_at x y d)))
      ∙ (ap (λ o. ordering_then o (ordering_then
      (compare_words (u ++ l.signature.left) (x ++ l.signature.left))
      (compare_words (l.signature.right ++ v) (l.signature.right ++ y))))
      (equal l.signature.generator l.signature.generator refl)
      ∙ ap (λ o. ordering_then (ordering_then o
      (slice_cmp compare_letters (u ++ l.signature.left) (x ++ l.signature.left)))
      (compare_words (l.signature.right ++ v) (l.signature.right ++ y)))
      (lighter (word_weight (u ++ l.signature.left)) (word_weight (x ++ l.signature.left))
      weights))
    where
      equal : (a b : ℕ) → a ≡ b → nat_cmp a b ≡ Equal
      equal a b same = sym (nat_cmp_is a b Equal same)

      lighter : (a b : ℕ) → a < b → nat_cmp a b ≡ Less
      lighter a b less = sym (nat_cmp_is a b Less less)

      longer : (t : Word) × (x ≡ u ++ t) × (l.word ++ v ≡ t ++ (l.word ++ y))
          → word_weight u < word_weight x
      longer (t, more, _) =
          omega (
            arith,
            ap length more,
            ap word_weight more,
            length-append u t,
            weight-append u t,
            length_at_most t,
          )

      weights : word_weight (u ++ l.signature.left) < word_weight (x ++ l.signature.left)
      weights =
          omega (
            arith,
            weight-append u l.signature.left,
            weight-append x l.signature.left,
            longer (cut u (l.word ++ v) x (l.word ++ y) (e ∙ sym d) (omega arith)),
          )

  pub leftmost : (q r : ℕ) → q ≤ r → OccursAt l.word w q → RegularPlace l w β r
      → RegularPlace l w β q
  leftmost q r h (u, v, e, k) (x, y, regular, m) = go (nat_order q r)
    where
      go : (q < r) ⊎ ((q ≡ r) ⊎ (r < q)) → RegularPlace l w β q
      go (inl less) = (
        u,
        v,
        record {
          spells = sym e;
          below = sigs_order.trans (sig_times u l.signature v) (sig_times x l.signature y) β
              (lesser_left u v x y (sym e) regular.spells (omega (arith, k, m, less)))
              regular.below;
        },
        k,
      )
      go (inr (inl same)) = subst (RegularPlace l w β) (sym same) (x, y, regular, m)
      go (inr (inr more)) = absurd (omega (arith, h, more))

  -- so the first place decides
  pub first_decides : (q : ℕ) → IsPlaceFrom l.word w 0 (Some q) → RegularPlace l w β q
      → IsFirstPlace l w β (Some q)
  first_decides q found here = (here, λ r h. found.2 r (omega arith) (regular_occurs r h))

  pub none_decides : (q : ℕ) → IsPlaceFrom l.word w 0 (Some q) → ¬ RegularPlace l w β q
      → IsFirstPlace l w β None
  none_decides q found here r h =
      here (leftmost q r (found.2 r (omega arith) (regular_occurs r h)) found.1 h)

  pub no_place : IsPlaceFrom l.word w 0 None → IsFirstPlace l w β None
  no_place none q h = none q (omega arith) (regular_occurs q h)

-- none of the pairs before this one stands so
-- from this one on, no pair before the index stands regularly
pub record NonePairBefore (leads : List Lead) (w : Word) (β : Sig) (from index : ℕ) : Type 0 where
  pub later : (i : ℕ) (u v : Word) → RegularAt leads w β i u v → from ≤ i → index ≤ i

module _ (leads : List Lead) (w : Word) (β : Sig) where
  pub pair_further : (from index : ℕ) (l : Lead) → NonePairBefore leads w β from index
      → slice_get leads index ≡ Some l → IsFirstPlace l w β None
      → NonePairBefore leads w β from (index + 1)
  pair_further from index l before here none =
      record { later = λ i u v r m. go i u v r m (nat_order index i) }
    where
      go : (i : ℕ) (u v : Word) → RegularAt leads w β i u v → from ≤ i → (index < i)
          ⊎ ((index ≡ i) ⊎ (i < index)) → index + 1 ≤ i
      go i u v r m (inl less) = omega (arith, less)
      go i u v r m (inr (inl same)) =
          let lead : r.lead ≡ l = cc (r.stands, here, same) in
          absurd (none (length u) (
            u,
            v,
            subst (λ (m : Lead). IsRegular m w β u v) lead r.regular,
            refl,
          ))
      go i u v r m (inr (inr more)) = omega (arith, before.later i u v r m, more)

  pub pair_found : (index : ℕ) (l : Lead) (h : Hit) → NonePairBefore leads w β 0 index
      → slice_get leads index ≡ Some l → IsFirstPlace l w β (Some h.place) → h.number ≡ index + 1
      → IsFirstRegular leads w β (Some h)
  pair_found index l h before here ((u, v, regular, left), leftmost) number = (
    index,
    u,
    v,
    record {
      regular = record { lead = l; stands = here; regular = regular };
      least = λ j x y r. go j x y r (nat_order index j);
    },
    number,
    sym left,
  )
    where
      go : (j : ℕ) (x y : Word) → RegularAt leads w β j x y → (index < j)
          ⊎ ((index ≡ j) ⊎ (j < index)) → (index < j) ⊎ ((index ≡ j) × (length u ≤ length x))
      go j x y r (inl less) = inl less
      go j x y r (inr (inl same)) =
          let lead : r.lead ≡ l = cc (r.stands, here, same) in
          let further : h.place ≤ length x =
          leftmost (length x) (
            x,
            y,
            subst (λ (m : Lead). IsRegular m w β x y) lead r.regular,
            refl,
          ) in
          inr (same, omega (arith, left, further))
      go j x y r (inr (inr more)) = absurd (omega (arith, before.later j x y r (omega arith), more))

  pub no_pair_from : (from index : ℕ) → NonePairBefore leads w β from index → length leads ≤ index
      → ¬ HasRegularAfter leads from w β
  no_pair_from from index before all (i, u, v, r, m) =
      absurd (omega (arith, before.later i u v r m, slice_get_within leads i r.lead r.stands))

  pub no_pair : (index : ℕ) → NonePairBefore leads w β 0 index → length leads ≤ index
      → IsFirstRegular leads w β None
  no_pair index before all i u v r = no_pair_from 0 index before all (i, u, v, r, omega arith)

  pub pair_stands : (from index : ℕ) (l : Lead) (q : ℕ) → from ≤ index
      → slice_get leads index ≡ Some l → IsFirstPlace l w β (Some q)
      → HasRegularAfter leads from w β
  pair_stands from index l q within here ((u, v, regular, left), least) = (
    index,
    u,
    v,
    record { lead = l; stands = here; regular = regular },
    within,
  )
