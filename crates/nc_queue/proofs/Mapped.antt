-- Keys seen through a function, where the order and the tests look only at what it gives.
use Rattle.std.proofs.Common.{Bool, Bor, IfSome, Less, List, None, Option, Ordering, Some, [], ap, cond, false, refl, true, ◌∷◌, ◌||◌, ◌≡◌}
use Rattle.std.specs.List.{AllByRecursion, filter, list_any, slice_get}
use Rattle.std.specs.List.Sorted.{IsStrictlySortedBy}
use Rattle.std.specs.Prelude.{map}

module _ {A K : Type 0} (f : A → K) where
  pub map_filter : (test : K → Bool) (ks : List A)
      → map f (filter (λ x. test (f x)) ks) ≡ filter test (map f ks)
  map_filter test [] = refl
  map_filter test (x ∷ xs) = go (test (f x)) (map_filter test xs)
    where
      go : (b : Bool) → map f (filter (λ y. test (f y)) xs) ≡ filter test (map f xs)
          → map f (cond b (x ∷ filter (λ y. test (f y)) xs) (filter (λ y. test (f y)) xs))
          ≡ cond b (f x ∷ filter test (map f xs)) (filter test (map f xs))
      go true e = ap (λ ys. f x ∷ ys) e
      go false e = e

  pub any_map : (test : K → Bool) (ks : List A)
      → list_any (λ x. test (f x)) ks ≡ list_any test (map f ks)
  any_map test [] = refl
  any_map test (x ∷ xs) = ap (λ b. test (f x) || b) (any_map test xs)

  all_map : (P : K → Type 0) (ks : List A) → AllByRecursion (λ x. P (f x)) ks
      → AllByRecursion P (map f ks)
  all_map P [] a = tt
  all_map P (x ∷ xs) a = (a.0, all_map P xs a.1)

  pub sorted_map : (R : K → K → Ordering) (ks : List A)
      → IsStrictlySortedBy (λ x y. R (f x) (f y)) ks → IsStrictlySortedBy R (map f ks)
  unfolding IsStrictlySortedBy
  sorted_map R [] s = tt
  sorted_map R (x ∷ xs) s = (all_map (λ k. R (f x) k ≡ Less) xs s.0, sorted_map R xs s.1)

  pub first_map : (ks : List A) (o : Option (Bor A)) → IfSome o (λ k. slice_get ks 0 ≡ Some k.now)
      → IfSome o (λ k. (others : List K) × (map f ks ≡ f k.now ∷ others))
  first_map ks None h = tt
  first_map [] (Some k) h = absurd (none k.now h)
    where
      none : (x : A) → None ≡ Some x → ⊥
      none x e = cc
  first_map (x ∷ xs) (Some k) h = (map f xs, ap (λ y. f y ∷ map f xs) (one x k.now h))
    where
      one : (y z : A) → Some y ≡ Some z → y ≡ z
      one y z e = cc
