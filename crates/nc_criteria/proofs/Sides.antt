-- The two sides of a trivial syzygy compare by their heads and then by their words.
-- The heads are the degrees and the generators, and do not depend on the place. So most pairs are
-- settled without a search (`behind_anywhere`, `behind_nowhere`, `before_anywhere`,
-- `before_nowhere`); otherwise the words at each place decide.
use Rattle.nc_algebra.proofs.Orders.{nat_order}
use Rattle.nc_algebra.proofs.Words.{weight-append}
use Rattle.nc_algebra.specs.Monomials.{compare_sigs, sig_times}
use Rattle.nc_algebra.specs.Words.{OccursAt, Word, compare_words, word_weight}
use Rattle.nc_criteria.specs.Leads.{IsBefore, IsBehind, compare_heads, words_before, words_behind}
use Rattle.nc_snapshot.specs.declared.lead.Lead.{Lead}
use Rattle.nc_words.specs.Places.{IsPlaceFrom}
use Rattle.std.proofs.Common.{Equal, Greater, IsTrue, Less, None, Option, Ordering, Some, [], ap, ap₂, append-nil, append_assoc, arith, drop, inl, inr, length, length-append, refl, sym, take, true, ℕ, ◌+◌, ◌++◌, ◌<◌, ◌∙◌, ◌≡◌, ◌≤◌, ◌↔◌, ◌⊎◌}
use Rattle.std.proofs.lemmas.List.{drop_at, take_at}
use Rattle.std.specs.Cmp.{nat_cmp_is}
use Rattle.std.specs.Option.{is_some}
use Rattle.std.specs.Ordering.{is_lt, nat_cmp, ordering_then}

-- what both numbers have more does not matter
nat_cmp_more : (a b k x y : ℕ) → x ≡ a + k → y ≡ b + k → nat_cmp x y ≡ nat_cmp a b
nat_cmp_more a b k x y d e = go (nat_order a b)
  where
    go : (a < b) ⊎ ((a ≡ b) ⊎ (b < a)) → nat_cmp x y ≡ nat_cmp a b
    go (inl l) = sym (nat_cmp_is x y Less (omega (arith, l, d, e))) ∙ nat_cmp_is a b Less l
    go (inr (inl l)) = sym (nat_cmp_is x y Equal (omega (arith, l, d, e))) ∙ nat_cmp_is a b Equal l
    go (inr (inr l)) =
        sym (nat_cmp_is x y Greater (omega (arith, l, d, e))) ∙ nat_cmp_is a b Greater l

then_first : (a b c : Ordering)
    → ordering_then a (ordering_then b c) ≡ ordering_then (ordering_then a b) c
then_first Less b c = refl
then_first Equal b c = refl
then_first Greater b c = refl

is_less : (o : Ordering) → is_lt o ≡ true → o ≡ Less
is_less o e = grind (arith, e)

-- a place begins within the word
pub place_within : (l v : Word) (from at : ℕ) → IsPlaceFrom l v from (Some at)
    → at + 1 ≤ length v + 1
place_within l v from at (_, (u, x, e, n), _) =
    omega (arith, ap length e, length-append u (l ++ x), n)

-- heads that differ decide, and else the words do
module _ (sides heads words : Ordering) (is : sides ≡ ordering_then heads words) where
  pub by_lesser_heads : heads ≡ Less → sides ≡ Less
  by_lesser_heads h = is ∙ ap (λ o. ordering_then o words) h

  pub by_greater_heads : heads ≡ Greater → ¬ (sides ≡ Less)
  by_greater_heads h e =
      let d : Greater ≡ Less = sym (is ∙ ap (λ o. ordering_then o words) h) ∙ e in cc

  pub by_words : heads ≡ Equal → sides ≡ words
  by_words h = is ∙ ap (λ o. ordering_then o words) h

module _ (own other : Lead) where
  pub sides_behind : (m : Word) → compare_sigs (sig_times (own.word.now ++ m) other.sig.now [])
      (sig_times [] own.sig.now (m ++ other.word.now)) ≡ ordering_then (compare_heads own other)
      (words_behind own other m)
  sides_behind m =
      ap₂ (λ o p. ordering_then o (ordering_then
      (nat_cmp other.sig.now.generator own.sig.now.generator) p))
      (nat_cmp_more (word_weight own.word.now + other.sig.now.degree)
      (own.sig.now.degree + word_weight other.word.now) (word_weight m)
      (word_weight (own.word.now ++ m) + other.sig.now.degree + 0)
      (0 + own.sig.now.degree + word_weight (m ++ other.word.now))
      (omega (arith, weight-append own.word.now m))
      (omega (arith, weight-append m other.word.now)))
      (ap₂ (λ x y. ordering_then (compare_words x own.sig.now.left)
      (compare_words y (own.sig.now.right ++ (m ++ other.word.now))))
      (append_assoc own.word.now m other.sig.now.left) (append-nil other.sig.now.right))
      ∙ then_first (nat_cmp (word_weight own.word.now + other.sig.now.degree)
      (own.sig.now.degree + word_weight other.word.now))
      (nat_cmp other.sig.now.generator own.sig.now.generator) (words_behind own other m)

  pub sides_before : (m : Word) → compare_sigs (sig_times [] other.sig.now (m ++ own.word.now))
      (sig_times (other.word.now ++ m) own.sig.now []) ≡ ordering_then (compare_heads own other)
      (words_before own other m)
  sides_before m =
      ap₂ (λ o p. ordering_then o (ordering_then
      (nat_cmp other.sig.now.generator own.sig.now.generator) p))
      (nat_cmp_more (word_weight own.word.now + other.sig.now.degree)
      (own.sig.now.degree + word_weight other.word.now) (word_weight m)
      (0 + other.sig.now.degree + word_weight (m ++ own.word.now))
      (word_weight (other.word.now ++ m) + own.sig.now.degree + 0)
      (omega (arith, weight-append m own.word.now))
      (omega (arith, weight-append other.word.now m)))
      (ap₂ (λ x y. ordering_then (compare_words other.sig.now.left x)
      (compare_words (other.sig.now.right ++ (m ++ own.word.now)) y))
      (append_assoc other.word.now m own.sig.now.left) (append-nil own.sig.now.right))
      ∙ then_first (nat_cmp (word_weight own.word.now + other.sig.now.degree)
      (own.sig.now.degree + word_weight other.word.now))
      (nat_cmp other.sig.now.generator own.sig.now.generator) (words_before own other m)

  -- ---- behind

  module _ (v : Word) where
    occurs_behind : (b : IsBehind own other v) → OccursAt other.word.now v (length b.m)
    occurs_behind b = (b.m, b.rest, sym b.spells, refl)

    abbrev pub NoneBehind : ℕ → Type 0
    NoneBehind from = (b : IsBehind own other v) → from ≤ length b.m

    front : (m rest : Word) (at : ℕ) → v ≡ m ++ (other.word.now ++ rest) → length m ≡ at
        → take at v ≡ m
    front m rest at e n = ap (take at) e ∙ take_at m (other.word.now ++ rest) at n

    pub behind_further : (from at : ℕ) → compare_heads own other ≡ Equal → NoneBehind from
        → IsPlaceFrom other.word.now v from (Some at)
        → ¬ (is_lt (words_behind own other (take at v)) ≡ true) → NoneBehind (at + 1)
    behind_further from at heads before place not b = go (nat_order at (length b.m))
      where
        go : (at < length b.m) ⊎ ((at ≡ length b.m) ⊎ (length b.m < at)) → at + 1 ≤ length b.m
        go (inl l) = omega (arith, l)
        go (inr (inl l)) =
            absurd (not (ap is_lt (ap (words_behind own other)
            (front b.m b.rest at (sym b.spells) (sym l))
            ∙ (sym (by_words (compare_sigs (sig_times (own.word.now ++ b.m) other.sig.now [])
            (sig_times [] own.sig.now (b.m ++ other.word.now))) (compare_heads own other)
            (words_behind own other b.m) (sides_behind b.m) heads) ∙ b.lesser))))
        go (inr (inr l)) =
            absurd (omega (arith, l, place.2 (length b.m) (before b) (occurs_behind b)))

    pub behind_found : (from at : ℕ) → compare_heads own other ≡ Equal
        → IsPlaceFrom other.word.now v from (Some at)
        → is_lt (words_behind own other (take at v)) ≡ true → IsBehind own other v
    behind_found from at heads (_, (m, rest, e, n), _) less =
        record {
          m = m;
          rest = rest;
          spells = sym e;
          lesser = by_words (compare_sigs (sig_times (own.word.now ++ m) other.sig.now [])
              (sig_times [] own.sig.now (m ++ other.word.now))) (compare_heads own other)
              (words_behind own other m) (sides_behind m) heads
              ∙ is_less (words_behind own other m)
              (ap (λ x. is_lt (words_behind own other x)) (sym (front m rest at e n)) ∙ less);
        }

    pub none_behind : (from : ℕ) → NoneBehind from → IsPlaceFrom other.word.now v from None
        → ¬ IsBehind own other v
    none_behind from before none b = none (length b.m) (before b) (occurs_behind b)

    -- where the heads decide, any place will do, or none
    pub behind_anywhere : compare_heads own other ≡ Less → (r : Option ℕ)
        → IsPlaceFrom other.word.now v 0 r → IsTrue (is_some r) ↔ IsBehind own other v
    behind_anywhere heads None none =
        (λ t. absurd cc, λ b. absurd (none (length b.m) (omega arith) (occurs_behind b)))
    behind_anywhere heads (Some at) (_, (m, rest, e, n), _) = (
      λ t. record {
        m = m;
        rest = rest;
        spells = sym e;
        lesser = by_lesser_heads
            (compare_sigs (sig_times (own.word.now ++ m) other.sig.now [])
            (sig_times [] own.sig.now (m ++ other.word.now))) (compare_heads own other)
            (words_behind own other m) (sides_behind m) heads;
      },
      λ b. refl,
    )

    pub behind_nowhere : compare_heads own other ≡ Greater → ¬ IsBehind own other v
    behind_nowhere heads b =
        by_greater_heads (compare_sigs (sig_times (own.word.now ++ b.m) other.sig.now [])
        (sig_times [] own.sig.now (b.m ++ other.word.now))) (compare_heads own other)
        (words_behind own other b.m) (sides_behind b.m) heads b.lesser

  -- ---- before

  module _ (u : Word) where
    occurs_before : (b : IsBefore own other u) → OccursAt other.word.now u (length b.rest)
    occurs_before b = (b.rest, b.m, sym b.spells, refl)

    abbrev pub NoneBefore : ℕ → Type 0
    NoneBefore from = (b : IsBefore own other u) → from ≤ length b.rest

    back : (rest m : Word) (at : ℕ) → u ≡ rest ++ (other.word.now ++ m) → length rest ≡ at
        → drop (length other.word.now) (drop at u) ≡ m
    back rest m at e n =
        ap (λ x. drop (length other.word.now) (drop at x)) e
        ∙ (ap (drop (length other.word.now)) (drop_at rest (other.word.now ++ m) at n)
        ∙ drop_at other.word.now m (length other.word.now) refl)

    pub before_further : (from at : ℕ) → compare_heads own other ≡ Equal → NoneBefore from
        → IsPlaceFrom other.word.now u from (Some at)
        → ¬ (is_lt (words_before own other (drop (length other.word.now) (drop at u))) ≡ true)
        → NoneBefore (at + 1)
    before_further from at heads before place not b = go (nat_order at (length b.rest))
      where
        go : (at < length b.rest) ⊎ ((at ≡ length b.rest) ⊎ (length b.rest < at))
            → at + 1 ≤ length b.rest
        go (inl l) = omega (arith, l)
        go (inr (inl l)) =
            absurd (not (ap is_lt (ap (words_before own other)
            (back b.rest b.m at (sym b.spells) (sym l))
            ∙ (sym (by_words (compare_sigs (sig_times [] other.sig.now (b.m ++ own.word.now))
            (sig_times (other.word.now ++ b.m) own.sig.now [])) (compare_heads own other)
            (words_before own other b.m) (sides_before b.m) heads) ∙ b.lesser))))
        go (inr (inr l)) =
            absurd (omega (arith, l, place.2 (length b.rest) (before b) (occurs_before b)))

    pub before_found : (from at : ℕ) → compare_heads own other ≡ Equal
        → IsPlaceFrom other.word.now u from (Some at)
        → is_lt (words_before own other (drop (length other.word.now) (drop at u))) ≡ true
        → IsBefore own other u
    before_found from at heads (_, (rest, m, e, n), _) less =
        record {
          rest = rest;
          m = m;
          spells = sym e;
          lesser = by_words (compare_sigs (sig_times [] other.sig.now (m ++ own.word.now))
              (sig_times (other.word.now ++ m) own.sig.now [])) (compare_heads own other)
              (words_before own other m) (sides_before m) heads
              ∙ is_less (words_before own other m)
              (ap (λ x. is_lt (words_before own other x)) (sym (back rest m at e n)) ∙ less);
        }

    pub none_before : (from : ℕ) → NoneBefore from → IsPlaceFrom other.word.now u from None
        → ¬ IsBefore own other u
    none_before from before none b = none (length b.rest) (before b) (occurs_before b)

    pub before_anywhere : compare_heads own other ≡ Less → (r : Option ℕ)
        → IsPlaceFrom other.word.now u 0 r → IsTrue (is_some r) ↔ IsBefore own other u
    before_anywhere heads None none =
        (λ t. absurd cc, λ b. absurd (none (length b.rest) (omega arith) (occurs_before b)))
    before_anywhere heads (Some at) (_, (rest, m, e, n), _) = (
      λ t. record {
        rest = rest;
        m = m;
        spells = sym e;
        lesser = by_lesser_heads
            (compare_sigs (sig_times [] other.sig.now (m ++ own.word.now))
            (sig_times (other.word.now ++ m) own.sig.now [])) (compare_heads own other)
            (words_before own other m) (sides_before m) heads;
      },
      λ b. refl,
    )

    pub before_nowhere : compare_heads own other ≡ Greater → ¬ IsBefore own other u
    before_nowhere heads b =
        by_greater_heads (compare_sigs (sig_times [] other.sig.now (b.m ++ own.word.now))
        (sig_times (other.word.now ++ b.m) own.sig.now [])) (compare_heads own other)
        (words_before own other b.m) (sides_before b.m) heads b.lesser
