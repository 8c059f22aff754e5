-- Ascending lists as sets, under an order in which only the same are equal.
-- The tree of waiting signatures is read as the ascending list of their values. Two ascending lists
-- with the same members are the same list (`same_members`).
use Rattle.nc_algebra.proofs.Finite.{among_contains, contains_among}
use Rattle.nc_algebra.specs.Lists.{Among}
use Rattle.std.proofs.Common.{arith, subst, Bool, Contains, Equal, Greater, IsTrue, Less, List, Ordering, [], ap, cond, false, inl, inr, not, refl, sym, true, ◌∙◌, ◌∷◌, ◌↔◌, ◌≡◌, ◌⊎◌}
use Rattle.std.proofs.lemmas.Bool.{cases_Bool, false≢true}
use Rattle.std.proofs.lemmas.List.Kept.{IsStrictlySortedBy-filter}
use Rattle.std.proofs.lemmas.Map.Keys.{sorted_head}
use Rattle.std.proofs.lemmas.Map.Lookups.{CmpEqualImpliesEq, btree_set_from_contains}
use Rattle.std.proofs.lemmas.Map.Views.{btree_set_contains_iff}
use Rattle.std.specs.BTreeMap.{is_at}
use Rattle.std.specs.BTreeSet.{BTreeSet, contains}
use Rattle.std.specs.Cmp.{Equal-is, IsTotalOrder}
use Rattle.std.specs.List.{AllByRecursion, filter, list_any}
use Rattle.std.specs.List.Sorted.{IsStrictlySortedBy}
use Rattle.std.specs.Ordering.{is_eq, ordering_reverse}

same_truth : (a b : Bool) → IsTrue a ↔ IsTrue b → a ≡ b
same_truth true true h = refl
same_truth true false h = sym (h.0 refl)
same_truth false true h = h.1 refl
same_truth false false h = refl

module _ {K : Type 0} where
  abbrev as_set : List K → BTreeSet K
  as_set ks = record { keys = ks }

  each : (P : K → Type 0) (ks : List K) (q : K) → AllByRecursion P ks → Among q ks → P q
  each P [] q a h = absurd h
  each P (x ∷ xs) q a (inl e) = subst P (sym e) a.0
  each P (x ∷ xs) q a (inr h) = each P xs q a.1 h

  pub only_one : (k q : K) → Contains (k ∷ []) q → q ≡ k
  only_one k q c = elim (contains_among q (k ∷ []) c) [ inl e ↦ e | inr h ↦ absurd h ]

  -- ---- a filter

  filtered : (p : K → Bool) (q : K) (ks : List K) → Among q (filter p ks) → Among q ks
      × (p q ≡ true)
  filtered p q [] h = absurd h
  filtered p q (x ∷ xs) h = go (p x) refl h (filtered p q xs)
    where
      go : (b : Bool) → p x ≡ b → Among q (cond b (x ∷ filter p xs) (filter p xs))
          → (Among q (filter p xs) → Among q xs × (p q ≡ true)) → ((q ≡ x) ⊎ Among q xs)
          × (p q ≡ true)
      go true d (inl i) f = (inl i, ap p i ∙ d)
      go true d (inr k) f = (inr (f k).0, (f k).1)
      go false d k f = (inr (f k).0, (f k).1)

  kept : (p : K → Bool) (q : K) (ks : List K) → Among q ks → p q ≡ true → Among q (filter p ks)
  kept p q [] h e = h
  kept p q (x ∷ xs) h e = go (p x) refl h (λ k. kept p q xs k e)
    where
      go : (b : Bool) → p x ≡ b → (q ≡ x) ⊎ Among q xs → (Among q xs → Among q (filter p xs))
          → Among q (cond b (x ∷ filter p xs) (filter p xs))
      go true d (inl i) f = inl i
      go true d (inr k) f = inr (f k)
      go false d (inl i) f = absurd (false≢true (sym d ∙ (ap p (sym i) ∙ e)))
      go false d (inr k) f = f k

  pub contains_filter : (p : K → Bool) (ks : List K) (q : K) → Contains (filter p ks) q
      ↔ (Contains ks q × (p q ≡ true))
  contains_filter p ks q = (
    λ h. let t = filtered p q ks (contains_among q (filter p ks) h) in
        (among_contains q ks t.0, t.1),
    λ t. among_contains q (filter p ks) (kept p q ks (contains_among q ks t.0) t.1),
  )

module _ {K : Type 0} {R : K → K → Ordering} (o : IsTotalOrder R) (exact : CmpEqualImpliesEq R)
  where
    itself : (x : K) → R x x ≡ Equal
    itself x = own (R x x) (o.antisymm x x)
      where
        own : (a : Ordering) → a ≡ ordering_reverse a → a ≡ Equal
        own Less e = absurd (grind (arith, e))
        own Equal e = refl
        own Greater e = absurd (grind (arith, e))

    pub found : (ks : List K) (q : K) → IsTrue (list_any (is_at (R q)) ks) ↔ Contains ks q
    found ks q = btree_set_contains_iff o exact (as_set ks) q

    pub contains_or_not : (ks : List K) (q : K) → Contains ks q ⊎ ¬ Contains ks q
    contains_or_not ks q = go (cases_Bool (list_any (is_at (R q)) ks)) (found ks q)
      where
        go : (list_any (is_at (R q)) ks ≡ true) ⊎ (list_any (is_at (R q)) ks ≡ false)
            → IsTrue (list_any (is_at (R q)) ks) ↔ Contains ks q → Contains ks q ⊎ ¬ Contains ks q
        go (inl e) h = inl (h.0 e)
        go (inr e) h = inr (λ c. false≢true (sym e ∙ h.1 c))

    same_key : (k q : K) → is_eq (R k q) ≡ true → q ≡ k
    same_key k q e = sym (exact k q ((Equal-is (R k q)).0 e))

    other_key : (k q : K) → is_eq (R k q) ≡ false → q ≡ k → ⊥
    other_key k q e d =
        false≢true (sym e ∙ (Equal-is (R k q)).1 (subst (λ y. R k y ≡ Equal) (sym d) (itself k)))

    -- ---- what is there after one came or went

    pub with_one : (k q : K) (old new : List K)
        → list_any (is_at (R q)) new ≡ cond (is_at (R k) q) true (list_any (is_at (R q)) old)
        → Contains new q ↔ (Contains old q ⊎ (q ≡ k))
    with_one k q old new h = go (is_eq (R k q)) refl h (found old q) (found new q)
      where
        go : (b : Bool) → is_eq (R k q) ≡ b
            → list_any (is_at (R q)) new ≡ cond b true (list_any (is_at (R q)) old)
            → IsTrue (list_any (is_at (R q)) old) ↔ Contains old q
            → IsTrue (list_any (is_at (R q)) new) ↔ Contains new q → Contains new q
            ↔ (Contains old q ⊎ (q ≡ k))
        go true e d f g = (λ c. inr (same_key k q e), λ c. g.0 d)
        go false e d f g = (
          λ c. inl (f.0 (sym d ∙ g.1 c)),
          λ c. elim c [ inl t ↦ g.0 (d ∙ f.1 t) | inr i ↦ absurd (other_key k q e i) ],
        )

    pub without_one : (k q : K) (old new : List K)
        → list_any (is_at (R q)) new ≡ cond (is_at (R k) q) false (list_any (is_at (R q)) old)
        → Contains new q ↔ (Contains old q × ¬ Contains (k ∷ []) q)
    without_one k q old new h = go (is_eq (R k q)) refl h (found old q) (found new q)
      where
        go : (b : Bool) → is_eq (R k q) ≡ b
            → list_any (is_at (R q)) new ≡ cond b false (list_any (is_at (R q)) old)
            → IsTrue (list_any (is_at (R q)) old) ↔ Contains old q
            → IsTrue (list_any (is_at (R q)) new) ↔ Contains new q → Contains new q
            ↔ (Contains old q × ¬ Contains (k ∷ []) q)
        go true e d f g = (
          λ c. absurd (false≢true (sym d ∙ g.1 c)),
          λ t. absurd (t.1 (among_contains q (k ∷ []) (inl (same_key k q e)))),
        )
        go false e d f g = (
          λ c. (f.0 (sym d ∙ g.1 c), λ t. other_key k q e (only_one k q t)),
          λ t. g.0 (d ∙ f.1 t.0),
        )

    pub contains_others : (xs ks : List K) (q : K)
        → Contains (filter (λ x. not (list_any (is_at (R x)) ks)) xs) q
        ↔ (Contains xs q × ¬ Contains ks q)
    contains_others xs ks q = (
      λ h. let t = (contains_filter p xs q).0 h in
          (t.0, λ c. absent (list_any (is_at (R q)) ks) t.1 ((found ks q).1 c)),
      λ t. (contains_filter p xs q).1
          (t.0, present (list_any (is_at (R q)) ks) (λ y. t.1 ((found ks q).0 y))),
    )
      where
        p : K → Bool
        p x = not (list_any (is_at (R x)) ks)

        absent : (b : Bool) → not b ≡ true → IsTrue b → ⊥
        absent true e h = false≢true e
        absent false e h = false≢true h

        present : (b : Bool) → ¬ IsTrue b → not b ≡ true
        present true n = absurd (n refl)
        present false n = refl

    -- two ascending lists with the same members are the same
    pub same_members : (xs ys : List K) → IsStrictlySortedBy R xs → IsStrictlySortedBy R ys
        → ((q : K) → Contains xs q ↔ Contains ys q) → xs ≡ ys
    same_members xs ys s t h =
        btree_set_from_contains o (as_set xs) (as_set ys) s t
        (λ q. same_truth (contains R (as_set xs) q) (contains R (as_set ys) q)
        (both q (btree_set_contains_iff o exact (as_set xs) q)
        (btree_set_contains_iff o exact (as_set ys) q))) exact
      where
        both : (q : K) → IsTrue (contains R (as_set xs) q) ↔ Contains xs q
            → IsTrue (contains R (as_set ys) q) ↔ Contains ys q → IsTrue (contains R (as_set xs) q)
            ↔ IsTrue (contains R (as_set ys) q)
        both q a b = (λ k. b.1 ((h q).0 (a.0 k)), λ k. a.1 ((h q).1 (b.0 k)))

    -- ---- the first that passes a test

    pub first_passes : (p : K → Bool) (ks : List K) (x : K) (rest : List K)
        → IsStrictlySortedBy R ks
        → filter p ks ≡ x ∷ rest → Contains ks x × (p x ≡ true)
        × ((q : K) → Contains ks q → p q ≡ true → (x ≡ q) ⊎ (R x q ≡ Less))
    first_passes p ks x rest s e =
        let t : Among x ks × (p x ≡ true) =
        filtered p x ks (subst (Among x) (sym e) (inl refl)) in (
          among_contains x ks t.0,
          t.1,
          λ q c y. go q (subst (Among q) e (kept p q ks (contains_among q ks c) y)),
        )
      where
        go : (q : K) → (q ≡ x) ⊎ Among q rest → (x ≡ q) ⊎ (R x q ≡ Less)
        go q (inl i) = inl (sym i)
        go q (inr g) =
            inr (each (λ y. R x y ≡ Less) rest q
            (sorted_head R x rest (subst (IsStrictlySortedBy R) e
            (IsStrictlySortedBy-filter R p ks s))) g)

    pub none_passes : (p : K → Bool) (ks : List K) → filter p ks ≡ [] → (q : K) → Contains ks q
        → p q ≡ true → ⊥
    none_passes p ks e q c y = subst (Among q) e (kept p q ks (contains_among q ks c) y)
