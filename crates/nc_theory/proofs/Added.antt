-- Lists with one element added, and what holds of their elements and of pairs of these.
use Rattle.nc_algebra.specs.Lists.{Among}
use Rattle.std.proofs.Common.{List, suc, [], arith, inl, inr, map, refl, subst, sym, ◌++◌, ◌∷◌, ◌≡◌}
use Rattle.std.proofs.lemmas.List.Elements.{All-cons, All-nil, recursion_from_All}
use Rattle.std.proofs.lemmas.List.Kept.{AllPairs-cons}
use Rattle.std.proofs.lemmas.List.Sorted.{IsPermutation-cons, IsPermutation-middle, IsPermutation-refl, IsPermutation-trans}
use Rattle.std.specs.List.{All, AllByRecursion, AllPairs}
use Rattle.std.specs.Prelude.{IsPermutation}

-- the second list is the first with x added at some place
pub data Inserts {X : Type 0} (x : X) : List X → List X → Type 0 where
  here : {xs : List X} → Inserts x xs (x ∷ xs)
  later : {y : X} {xs ys : List X} → Inserts x xs ys → Inserts x (y ∷ xs) (y ∷ ys)

-- the relation holds of each element and each later one
abbrev pub Pairs : {X : Type 0} → (X → X → Type 0) → List X → Type 0
Pairs R [] = Unit {0}
Pairs R (x ∷ xs) = AllByRecursion (R x) xs × Pairs R xs

abbrev pub IsSymmetric : {X : Type 0} → (X → X → Type 0) → Type 0
IsSymmetric {X} R = (x y : X) → R x y → R y x

module _ {X : Type 0} where
  -- ---- properties of each element

  pub each_map : (Q T : X → Type 0) → ((x : X) → Q x → T x) → (xs : List X) → AllByRecursion Q xs
      → AllByRecursion T xs
  each_map Q T f [] h = tt
  each_map Q T f (x ∷ xs) h = (f x h.0, each_map Q T f xs h.1)

  pub each_at : (Q : X → Type 0) (xs : List X) → AllByRecursion Q xs → (y : X) → Among y xs → Q y
  each_at Q [] h y a = absurd a
  each_at Q (x ∷ xs) h y (inl e) = subst Q (sym e) h.0
  each_at Q (x ∷ xs) h y (inr a) = each_at Q xs h.1 y a

  pub each_from : (Q : X → Type 0) (xs : List X) → ((y : X) → Among y xs → Q y)
      → AllByRecursion Q xs
  each_from Q [] f = tt
  each_from Q (x ∷ xs) f = (f x (inl refl), each_from Q xs (λ y a. f y (inr a)))

  pub each_all : (Q : X → Type 0) (xs : List X) → AllByRecursion Q xs → All Q xs
  each_all Q [] h = All-nil Q
  each_all Q (x ∷ xs) h = All-cons Q x xs h.0 (each_all Q xs h.1)

  pub pairs_all : (R : X → X → Type 0) (xs : List X) → Pairs R xs → AllPairs R xs
  pairs_all R [] h = λ i j d l m. absurd (omega (arith, m))
  pairs_all R (x ∷ xs) h = AllPairs-cons R x xs (each_all (R x) xs h.0) (pairs_all R xs h.1)

  pub pairs_from : (R : X → X → Type 0) (xs : List X) → AllPairs R xs → Pairs R xs
  pairs_from R [] h = tt
  pairs_from R (x ∷ xs) h = (
    recursion_from_All (R x) xs (λ k d l. h 0 (suc k) d (omega arith) (omega (arith, l))),
    pairs_from R xs (λ i j d l m. h (suc i) (suc j) d (omega (arith, l)) (omega (arith, m))),
  )

  pub pairs_map : (R S : X → X → Type 0) → ((x y : X) → R x y → S x y) → (xs : List X) → Pairs R xs
      → Pairs S xs
  pairs_map R S f [] h = tt
  pairs_map R S f (x ∷ xs) h = (each_map (R x) (S x) (f x) xs h.0, pairs_map R S f xs h.1)

  pub pairs_back : (R : X → X → Type 0) (xs ys : List X) → Pairs R (xs ++ ys) → Pairs R ys
  pairs_back R [] ys h = h
  pairs_back R (x ∷ xs) ys h = pairs_back R xs ys h.1

  -- ---- an added element

  pub each_less : (Q : X → Type 0) {x : X} {xs ys : List X} → Inserts x xs ys → AllByRecursion Q ys
      → Q x × AllByRecursion Q xs
  each_less Q Inserts.here h = h
  each_less Q (Inserts.later a) h = let t : _ = each_less Q a h.1 in (t.0, (h.0, t.1))

  pub each_more : (Q : X → Type 0) {x : X} {xs ys : List X} → Inserts x xs ys → Q x
      → AllByRecursion Q xs → AllByRecursion Q ys
  each_more Q Inserts.here q h = (q, h)
  each_more Q (Inserts.later a) q h = (h.0, each_more Q a q h.1)

  pub pairs_less : (R : X → X → Type 0) {x : X} {xs ys : List X} → Inserts x xs ys → Pairs R ys
      → Pairs R xs
  pairs_less R Inserts.here h = h.1
  pairs_less R (Inserts.later {y = y} a) h = ((each_less (R y) a h.0).1, pairs_less R a h.1)

  pub pairs_around : (R : X → X → Type 0) → IsSymmetric R → {x : X} {xs ys : List X}
      → Inserts x xs ys → Pairs R ys → AllByRecursion (R x) xs
  pairs_around R swap Inserts.here h = h.0
  pairs_around R swap {x} (Inserts.later {y = y} a) h =
      (swap y x (each_less (R y) a h.0).0, pairs_around R swap a h.1)

  pub pairs_more : (R : X → X → Type 0) → IsSymmetric R → {x : X} {xs ys : List X} → Inserts x xs ys
      → AllByRecursion (R x) xs → Pairs R xs → Pairs R ys
  pairs_more R swap Inserts.here e h = (e, h)
  pairs_more R swap {x} (Inserts.later {y = y} a) e h =
      (each_more (R y) a (swap x y e.0) h.0, pairs_more R swap a e.1 h.1)

  pub adds_behind : {x : X} {xs ys : List X} (zs : List X) → Inserts x xs ys
      → Inserts x (zs ++ xs) (zs ++ ys)
  adds_behind [] a = a
  adds_behind (z ∷ zs) a = Inserts.later (adds_behind zs a)

  pub adds_permutes : {x : X} {xs ys : List X} → Inserts x xs ys → IsPermutation (x ∷ xs) ys
  adds_permutes {x} (Inserts.here {xs = xs}) = IsPermutation-refl (x ∷ xs)
  adds_permutes {x} (Inserts.later {y = y} {xs = xs} {ys = ys} a) =
      IsPermutation-trans (x ∷ (y ∷ xs)) (y ∷ (x ∷ xs)) (y ∷ ys)
      (IsPermutation-middle (x ∷ []) y xs) (IsPermutation-cons y (x ∷ xs) ys (adds_permutes a))

  pub among_here : {x : X} {xs ys : List X} → Inserts x xs ys → Among x ys
  among_here Inserts.here = inl refl
  among_here (Inserts.later a) = inr (among_here a)

  pub among_more : {x : X} {xs ys : List X} → Inserts x xs ys → (y : X) → Among y xs → Among y ys
  among_more Inserts.here y h = inr h
  among_more (Inserts.later a) y (inl e) = inl e
  among_more (Inserts.later a) y (inr h) = inr (among_more a y h)

module _ {X Y : Type 0} (f : X → Y) where
  pub adds_map : {x : X} {xs ys : List X} → Inserts x xs ys → Inserts (f x) (map f xs) (map f ys)
  adds_map Inserts.here = Inserts.here
  adds_map (Inserts.later a) = Inserts.later (adds_map a)

  pub among_map : (x : X) (xs : List X) → Among x xs → Among (f x) (map f xs)
  among_map x [] a = a
  among_map x (y ∷ ys) (inl e) = inl (λ i. f (e i))
  among_map x (y ∷ ys) (inr a) = inr (among_map x ys a)

  pub among_mapped : (y : Y) (xs : List X) → Among y (map f xs) → (x : X) × Among x xs × (f x ≡ y)
  among_mapped y [] a = absurd a
  among_mapped y (x ∷ xs) (inl e) = (x, inl refl, sym e)
  among_mapped y (x ∷ xs) (inr a) =
      let t : (x : X) × Among x xs × (f x ≡ y) = among_mapped y xs a in (t.0, inr t.1, t.2)

  pub each_mapped : (Q : Y → Type 0) (xs : List X) → AllByRecursion Q (map f xs)
      → AllByRecursion (λ x. Q (f x)) xs
  each_mapped Q [] h = tt
  each_mapped Q (x ∷ xs) h = (h.0, each_mapped Q xs h.1)

  pub pairs_mapped : (R : Y → Y → Type 0) (xs : List X) → Pairs R (map f xs)
      → Pairs (λ x y. R (f x) (f y)) xs
  pairs_mapped R [] h = tt
  pairs_mapped R (x ∷ xs) h = (each_mapped (R (f x)) xs h.0, pairs_mapped R xs h.1)

  pub each_unmapped : (Q : Y → Type 0) (xs : List X) → AllByRecursion (λ x. Q (f x)) xs
      → AllByRecursion Q (map f xs)
  each_unmapped Q [] h = tt
  each_unmapped Q (x ∷ xs) h = (h.0, each_unmapped Q xs h.1)

  pub pairs_unmapped : (R : Y → Y → Type 0) (xs : List X) → Pairs (λ x y. R (f x) (f y)) xs
      → Pairs R (map f xs)
  pairs_unmapped R [] h = tt
  pairs_unmapped R (x ∷ xs) h = (each_unmapped (R (f x)) xs h.0, pairs_unmapped R xs h.1)
