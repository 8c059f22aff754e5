-- Elements of mapped lists, and numbers that rise.
use Rattle.nc_algebra.proofs.Finite.{among_contains, contains_among}
use Rattle.nc_algebra.specs.Lists.{Among}
use Rattle.std.proofs.Common.{Contains, List, [], ap, arith, get_or, inl, inr, length, length-append, map, refl, subst, sym, ℕ, ◌+◌, ◌++◌, ◌<◌, ◌∷◌, ◌≡◌, ◌⊎◌}
use Rattle.std.proofs.lemmas.List.{get_or_append_left, get_or_at}
use Rattle.std.specs.List.Sorted.{IsStrictlyIncreasing}

module _ {X Y : Type 0} (f : X → Y) where
  map_among : (xs : List X) (y : Y) → Among y (map f xs) → (x : X) × Among x xs × (y ≡ f x)
  map_among [] y h = absurd h
  map_among (z ∷ xs) y (inl e) = (z, inl refl, e)
  map_among (z ∷ xs) y (inr h) =
      let r : (x : X) × Among x xs × (y ≡ f x) = map_among xs y h in (r.0, inr r.1, r.2)

  among_map : (xs : List X) (x : X) → Among x xs → Among (f x) (map f xs)
  among_map [] x h = absurd h
  among_map (z ∷ xs) x (inl e) = inl (ap f e)
  among_map (z ∷ xs) x (inr h) = inr (among_map xs x h)

  pub map_contains : (xs : List X) (y : Y) → Contains (map f xs) y → (x : X) × Contains xs x
      × (f x ≡ y)
  map_contains xs y c =
      let r : (x : X) × Among x xs × (y ≡ f x) =
      map_among xs y (contains_among y (map f xs) c) in
      (r.0, among_contains r.0 xs r.1, sym r.2)

  pub contains_map : (xs : List X) (x : X) (y : Y) → Contains xs x → f x ≡ y → Contains (map f xs) y
  contains_map xs x y c e =
      subst (Contains (map f xs)) e (among_contains (f x) (map f xs)
      (among_map xs x (contains_among x xs c)))

-- one number more, above all
pub rising_push : (xs : List ℕ) (x : ℕ) → IsStrictlyIncreasing xs
    → ((k : ℕ) → k < length xs → get_or xs k 0 < x) → IsStrictlyIncreasing (xs ++ x ∷ [])
rising_push xs x rises below k within =
    go (order (k + 1) (length xs) (omega (arith, within, length-append xs (x ∷ []))))
  where
    order : (i l : ℕ) → i < l + 1 → (i < l) ⊎ (i ≡ l)
    order i l h = grind arith

    go : (k + 1 < length xs) ⊎ (k + 1 ≡ length xs)
        → get_or (xs ++ x ∷ []) k 0 < get_or (xs ++ x ∷ []) (k + 1) 0
    go (inl l) =
        omega (
          arith,
          rises k l,
          get_or_append_left xs (x ∷ []) 0 k (omega (arith, l)),
          get_or_append_left xs (x ∷ []) 0 (k + 1) l,
        )
    go (inr e) =
        omega (
          arith,
          below k (omega (arith, e)),
          get_or_append_left xs (x ∷ []) 0 k (omega (arith, e)),
          get_or_at xs x [] 0 (k + 1) (sym e),
        )
