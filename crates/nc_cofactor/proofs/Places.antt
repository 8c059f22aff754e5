-- Lists with one element more, place by place.
use Rattle.std.proofs.Common.{List, Some, [], arith, inl, inr, length, length-append, refl, subst, sym, ℕ, ◌+◌, ◌++◌, ◌-◌, ◌<◌, ◌∙◌, ◌∷◌, ◌≡◌, ◌≤◌, ◌⊎◌}
use Rattle.std.proofs.lemmas.List.{get_or_append_left, get_or_at}
use Rattle.std.proofs.lemmas.Option.{get_or_from_slice_get, slice_get_read, slice_get_within}
use Rattle.std.specs.List.{slice_get}

module _ {X : Type 0} (xs : List X) (x : X) where
  -- an earlier place
  pub earlier_place : (i : ℕ) (y : X) → i < length xs → slice_get (xs ++ x ∷ []) i ≡ Some y
      → slice_get xs i ≡ Some y
  earlier_place i y within at =
      slice_get_read xs (length xs) i y refl within
      (sym (sym (get_or_append_left xs (x ∷ []) y i within) ∙ get_or_from_slice_get (xs ++ x ∷ []) i
      y y at))

  -- the last place
  pub last_place : (i : ℕ) (y : X) → i ≡ length xs → slice_get (xs ++ x ∷ []) i ≡ Some y → x ≡ y
  last_place i y e at =
      sym (get_or_at xs x [] y i (sym e)) ∙ get_or_from_slice_get (xs ++ x ∷ []) i y y at

  pub earlier_there : (i : ℕ) (y : X) → slice_get xs i ≡ Some y
      → slice_get (xs ++ x ∷ []) i ≡ Some y
  earlier_there i y at =
      let within : i < length xs = slice_get_within xs i y at in
      slice_get_read (xs ++ x ∷ []) (length (xs ++ x ∷ [])) i y refl
      (omega (arith, within, length-append xs (x ∷ [])))
      (sym (get_or_append_left xs (x ∷ []) y i within ∙ get_or_from_slice_get xs i y y at))

  pub last_there : slice_get (xs ++ x ∷ []) (length xs) ≡ Some x
  last_there =
      slice_get_read (xs ++ x ∷ []) (length (xs ++ x ∷ [])) (length xs) x refl
      (omega (arith, length-append xs (x ∷ []))) (sym (get_or_at xs x [] x (length xs) refl))

  -- what holds of each place, counted from 1
  pub pushed : (Q : ℕ → X → Type 0) (k : ℕ) → k ≡ length xs + 1
      → ((i : ℕ) (y : X) → 1 ≤ i → slice_get xs (i - 1) ≡ Some y → Q i y) → Q k x → (i : ℕ) (y : X)
      → 1 ≤ i → slice_get (xs ++ x ∷ []) (i - 1) ≡ Some y → Q i y
  pushed Q k next old new i y some at =
      go (order (i - 1) (length xs) (omega (
        arith,
        slice_get_within (xs ++ x ∷ []) (i - 1) y at,
        length-append xs (x ∷ []),
      )))
    where
      order : (i l : ℕ) → i < l + 1 → (i < l) ⊎ (i ≡ l)
      order i l h = grind arith

      go : (i - 1 < length xs) ⊎ (i - 1 ≡ length xs) → Q i y
      go (inl l) = old i y some (earlier_place (i - 1) y l at)
      go (inr e) =
          let number : k ≡ i =
          omega (arith, e, next) in subst (λ j. Q j y) number
          (subst (Q k) (last_place (i - 1) y e at) new)
