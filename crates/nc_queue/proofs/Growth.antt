-- Sets that grow or shrink by one item of a list after the other.
use Rattle.nc_algebra.specs.Monomials.{Sig}
use Rattle.nc_queue.proofs.Ascending.{only_one}
use Rattle.nc_queue.specs.Queues.{IsDifference, IsUnion, IsWith}
use Rattle.std.proofs.Common.{Contains, List, [], ap, get_or, inl, inr, length, map, subst, sym, take, ℕ, ◌++◌, ◌+◌, ◌<◌, ◌∙◌, ◌∷◌, ◌↔◌, ◌≡◌, ◌⊎◌}
use Rattle.std.proofs.lemmas.List.{map_more}
use Rattle.std.proofs.lemmas.List.Elements.{Contains-append_left, Contains-push, Contains-push_cases}

module _ {A : Type 0} (f : A → Sig) where
  more_of : (xs : List A) (i : ℕ) (x : A) → i < length xs → x ≡ get_or xs i x → (σ : Sig)
      → Contains (map f (take (i + 1) xs)) σ ↔ (Contains (map f (take i xs)) σ ⊎ (σ ≡ f x))
  more_of xs i x l e σ = (
    λ c. go (Contains-push_cases (map f (take i xs)) (f x) σ
        (subst (λ ys. Contains ys σ) grown c)),
    λ c. subst (λ ys. Contains ys σ) (sym grown) (back c),
  )
    where
      grown : map f (take (i + 1) xs) ≡ map f (take i xs) ++ f x ∷ []
      grown = map_more f xs i x l ∙ ap (λ y. map f (take i xs) ++ f y ∷ []) (sym e)

      go : Contains (map f (take i xs)) σ ⊎ (f x ≡ σ) → Contains (map f (take i xs)) σ ⊎ (σ ≡ f x)
      go (inl c) = inl c
      go (inr d) = inr (sym d)

      back : Contains (map f (take i xs)) σ ⊎ (σ ≡ f x) → Contains (map f (take i xs) ++ f x ∷ []) σ
      back (inl c) = Contains-append_left (map f (take i xs)) (f x ∷ []) σ c
      back (inr d) =
          subst (λ y. Contains (map f (take i xs) ++ f x ∷ []) y) (sym d)
          (Contains-push (map f (take i xs)) (f x))

  pub union_more : (old mid new : List Sig) (xs : List A) (i : ℕ) (x : A) → i < length xs
      → x ≡ get_or xs i x → IsUnion old (map f (take i xs)) mid → IsWith mid (f x) new
      → IsUnion old (map f (take (i + 1) xs)) new
  union_more old mid new xs i x l e u w = λ σ. (λ c. there σ ((w σ).0 c), λ c. (w σ).1 (back σ c))
    where
      there : (σ : Sig) → Contains mid σ ⊎ (σ ≡ f x) → Contains old σ
          ⊎ Contains (map f (take (i + 1) xs)) σ
      there σ (inl c) =
          elim ((u σ).0 c) [ inl a ↦ inl a | inr b ↦ inr ((more_of xs i x l e σ).1 (inl b)) ]
      there σ (inr d) = inr ((more_of xs i x l e σ).1 (inr d))

      back : (σ : Sig) → Contains old σ ⊎ Contains (map f (take (i + 1) xs)) σ → Contains mid σ
          ⊎ (σ ≡ f x)
      back σ (inl a) = inl ((u σ).1 (inl a))
      back σ (inr b) =
          elim ((more_of xs i x l e σ).0 b) [ inl t ↦ inl ((u σ).1 (inr t)) | inr d ↦ inr d ]

  pub difference_more : (old mid new : List Sig) (xs : List A) (i : ℕ) (x : A) → i < length xs
      → x ≡ get_or xs i x → IsDifference old (map f (take i xs)) mid
      → IsDifference mid (f x ∷ []) new → IsDifference old (map f (take (i + 1) xs)) new
  difference_more old mid new xs i x l e d h =
      λ σ. (
        λ c. there σ ((h σ).0 c),
        λ t. (h σ).1 (
          (d σ).1 (t.0, λ c. t.1 ((more_of xs i x l e σ).1 (inl c))),
          λ c. t.1 ((more_of xs i x l e σ).1 (inr (only_one (f x) σ c))),
        ),
      )
    where
      there : (σ : Sig) → Contains mid σ × ¬ Contains (f x ∷ []) σ → Contains old σ
          × ¬ Contains (map f (take (i + 1) xs)) σ
      there σ t = (
        ((d σ).0 t.0).0,
        λ c. elim ((more_of xs i x l e σ).0 c) [
          | inl a ↦ ((d σ).0 t.0).1 a
          | inr k ↦ t.1
              (subst (λ y. Contains (f x ∷ []) y) (sym k) (Contains-push [] (f x)))
        ],
      )
