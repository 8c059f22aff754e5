-- Images of lists, and what is left of a list that is sorted and rid of repeats.
use Rattle.nc_algebra.specs.Monomials.{Monomial, Sig, compare_sigs, monomial_of}
use Rattle.nc_sig.proofs.Equality.{sigs_same}
use Rattle.nc_sig.specs.Orders.{sigs_order}
use Rattle.std.proofs.Common.{Bool, Contains, Less, List, Ordering, [], ap, arith, map, refl, subst, suc, sym, zero, ◌∙◌, ◌∷◌, ◌≡◌, ◌↔◌}
use Rattle.std.proofs.lemmas.Cmp.{eq_by_cmp_equiv, on_total}
use Rattle.std.proofs.lemmas.List.Filters.{All-dedup, dedup_is}
use Rattle.std.proofs.lemmas.List.Kept.{Any-dedup, Contains-from_dedup, IsStrictlySortedBy-dedup}
use Rattle.std.proofs.lemmas.List.Sorted.{All-permutation, Contains-permutation, IsPermutation-sym}
use Rattle.std.proofs.lemmas.List.Elements.{All-map}
use Rattle.std.proofs.lemmas.List.{get_or-map, length-map}
use Rattle.std.specs.Cmp.{Equal-is}
use Rattle.std.specs.List.{All, AllByRecursion, dedup}
use Rattle.std.specs.List.Retain.{DiffersFromLast, IsFiltered}
use Rattle.std.specs.List.Sorted.{IsPermutation, IsSorted, IsStrictlySortedBy}
use Rattle.std.specs.Ordering.{is_eq}

module _ {X Y : Type 0} (f : X → Y) where
  pub image : (xs : List X) (x : X) → Contains xs x → Contains (map f xs) (f x)
  image xs x c =
      (c.0, omega (arith, c.1, length-map xs f), get_or-map f xs c.0 x (f x) c.1 ∙ ap f c.2)

  pub preimage : (xs : List X) (y : Y) → Contains (map f xs) y → (x : X) × Contains xs x × (f x ≡ y)
  preimage [] y (k, h, e) = absurd (omega (arith, h))
  preimage (x ∷ xs) y (zero, h, e) = (x, (0, omega arith, refl), e)
  preimage (x ∷ xs) y (suc k, h, e) =
      let r = preimage xs y (k, omega (arith, h), e) in
      (r.0, (suc r.1.0, omega (arith, r.1.1), r.1.2), r.2)

  pub all_before : (P : Y → Type 0) (xs : List X) → All P (map f xs) → All (λ x. P (f x)) xs
  all_before P xs a k d h =
      subst P (get_or-map f xs k d (f d) h) (a k (f d) (omega (arith, h, length-map xs f)))

  recursion_map : (P : Y → Type 0) (xs : List X) → AllByRecursion (λ x. P (f x)) xs
      → AllByRecursion P (map f xs)
  recursion_map P [] a = tt
  recursion_map P (x ∷ xs) a = (a.0, recursion_map P xs a.1)

  sorted_map : (c : Y → Y → Ordering) (xs : List X) → IsStrictlySortedBy (λ x y. c (f x) (f y)) xs
      → IsStrictlySortedBy c (map f xs)
  unfolding IsStrictlySortedBy
  sorted_map c [] h = tt
  sorted_map c (x ∷ xs) h = (recursion_map (λ y. c (f x) y ≡ Less) xs h.0, sorted_map c xs h.1)

module _ {X : Type 0} (value : X → Sig) (xs ys zs : List X) (moved : IsPermutation xs ys)
    (kept : IsFiltered (DiffersFromLast (λ x y. is_eq (compare_sigs (value x) (value y)))) [] ys zs)
  where
    same : X → X → Bool
    same x y = is_eq (compare_sigs (value x) (value y))

    left : zs ≡ dedup (λ x y. is_eq (compare_sigs (value x) (value y))) ys
    left = dedup_is (λ x y. is_eq (compare_sigs (value x) (value y))) ys zs kept

    pub all_left : (P : Sig → Type 0) → All P (map value xs) → All P (map value zs)
    all_left P a =
        All-map P value zs (subst (All (λ x. P (value x))) (sym left)
        (All-dedup (λ x y. is_eq (compare_sigs (value x) (value y))) (λ x. P (value x)) ys
        (All-permutation (λ x. P (value x)) xs ys moved (all_before value P xs a))))

    pub ascending_left : IsSorted (λ x y. compare_sigs (value x) (value y)) ys
        → IsStrictlySortedBy compare_sigs (map value zs)
    ascending_left sorted =
        sorted_map value compare_sigs zs
        (subst (IsStrictlySortedBy (λ x y. compare_sigs (value x) (value y))) (sym left)
        (IsStrictlySortedBy-dedup (on_total value sigs_order) (λ x y. refl) ys sorted))

    back : (x : X) → Contains zs x → Contains xs x
    back x c =
        Contains-permutation ys xs x (IsPermutation-sym xs ys moved)
        (Contains-from_dedup (λ x y. is_eq (compare_sigs (value x) (value y))) ys x
        (subst (λ l. Contains l x) left c))

    forth : (x : X) → Contains xs x → (y : X) × Contains zs y × (value x ≡ value y)
    forth x c =
        let a = Any-dedup (eq_by_cmp_equiv (on_total value sigs_order)) ys x
        (Contains-permutation xs ys x moved c) in (
          a.1,
          subst (λ l. Contains l a.1) (sym left) (a.0, a.2, a.3),
          sigs_same (value x) (value a.1) ((Equal-is (compare_sigs (value x) (value a.1))).0 a.4),
        )

    -- the same monomials are left
    pub same_left : (ρ : Monomial) → Contains (map monomial_of (map value zs)) ρ
        ↔ Contains (map monomial_of (map value xs)) ρ
    same_left ρ = (from, to)
      where
        from : Contains (map monomial_of (map value zs)) ρ
            → Contains (map monomial_of (map value xs)) ρ
        from c =
            let a = preimage monomial_of (map value zs) ρ c in
            let b = preimage value zs a.0 a.1 in
            subst (Contains (map monomial_of (map value xs))) (ap monomial_of b.2 ∙ a.2)
            (image monomial_of (map value xs) (value b.0) (image value xs b.0 (back b.0 b.1)))

        to : Contains (map monomial_of (map value xs)) ρ
            → Contains (map monomial_of (map value zs)) ρ
        to c =
            let a = preimage monomial_of (map value xs) ρ c in
            let b = preimage value xs a.0 a.1 in
            let y = forth b.0 b.1 in
            subst (Contains (map monomial_of (map value zs))) (ap monomial_of (sym y.2 ∙ b.2) ∙ a.2)
            (image monomial_of (map value zs) (value y.0) (image value zs y.0 y.1))
