-- The front of a list, and what stands behind it.
-- An element of the front has its number in the whole (`in_front`), and what stands behind has a
-- greater one (`in_back`, `front_or_later`). So a divisor over the front is one over the whole
-- (`in_whole`); and an entry's number, with the words around it or the signature, tells the word
-- (`same_word`, `same_word_at`).
use Rattle.nc_algebra.proofs.Orders.{nat_order}
use Rattle.nc_algebra.specs.Elements.{Setting}
use Rattle.nc_algebra.specs.Monomials.{Monomial}
use Rattle.nc_algebra.specs.Polynomials.{leading}
use Rattle.nc_algebra.specs.Words.{Word}
use Rattle.nc_theory.proofs.Relisted.{relisted}
use Rattle.nc_theory.specs.Divisors.{Divisor, signature_at}
use Rattle.nc_theory.specs.States.{Entry}
use Rattle.std.proofs.Common.{◌≡◌, ◌+◌, ◌-◌, ◌<◌, ◌≤◌, ◌⊎◌, List, [], ◌∷◌, ◌++◌, length, refl, sym, ap, ap₂, ◌∙◌, inl, inr, arith, Contains, length-append, get_or}
use Rattle.std.proofs.lemmas.List.{get_or_append_left, get_or-append_right, get_or_default, append_cancel_left, append_cancel_right, get_or_push, length_push}
use Rattle.std.proofs.lemmas.List.Elements.{Contains-push_cases}

-- an element of the front stands in the whole, under the same number
abbrev pub in_front : {X : Type 0} → (xs ys : List X) (x : X) → Contains xs x
    → Contains (xs ++ ys) x
in_front xs ys x k =
    (k.0, omega (arith, k.1, length-append xs ys), get_or_append_left xs ys x k.0 k.1 ∙ k.2)

-- an element of the whole stands in the front, under the same number, or later
pub front_or_later : {X : Type 0} → (xs ys : List X) (x : X) → (k : Contains (xs ++ ys) x)
    → ((l : Contains xs x) × (l.0 ≡ k.0)) ⊎ (Contains ys x × (length xs ≤ k.0))
front_or_later xs ys x k = go (nat_order k.0 (length xs))
  where
    later : length xs ≤ k.0 → Contains ys x × (length xs ≤ k.0)
    later l = (
      (
        k.0 - length xs,
        omega (arith, k.1, length-append xs ys),
        sym (get_or-append_right xs ys (length xs) k.0 x refl l) ∙ k.2,
      ),
      l,
    )

    go : (k.0 < length xs) ⊎ ((k.0 ≡ length xs) ⊎ (length xs < k.0))
        → ((l : Contains xs x) × (l.0 ≡ k.0)) ⊎ (Contains ys x × (length xs ≤ k.0))
    go (inl l) = inl ((k.0, l, sym (get_or_append_left xs ys x k.0 l) ∙ k.2), refl)
    go (inr (inl e)) = inr (later (omega (arith, e)))
    go (inr (inr l)) = inr (later (omega arith))

-- what stands behind all of a list but the last is the last
pub last_is : {X : Type 0} → (xs : List X) (y x : X) → (k : Contains (xs ++ y ∷ []) x)
    → length xs ≤ k.0 → y ≡ x
last_is xs y x k b = go (front_or_later xs (y ∷ []) x k)
  where
    go : ((l : Contains xs x) × (l.0 ≡ k.0)) ⊎ (Contains (y ∷ []) x × (length xs ≤ k.0)) → y ≡ x
    go (inl (l, e)) = absurd (omega (arith, l.1, e, b))
    go (inr (c, _)) =
        elim (Contains-push_cases [] y x c) [ inl n ↦ absurd (omega (arith, n.1)) | inr e ↦ e ]

-- the last of a list stands behind the others
abbrev pub last_listed : {X : Type 0} → (xs : List X) (y : X) → Contains (xs ++ y ∷ []) y
last_listed xs y =
    (length xs, omega (arith, length_push xs y), get_or_push xs y y (length xs) refl)

-- an element behind the front, under its number in the whole
pub in_back : {X : Type 0} → (xs ys : List X) (x : X) → (c : Contains ys x)
    → (k : Contains (xs ++ ys) x) × (length xs ≤ k.0)
in_back xs ys x c =
    let same : length xs + c.0 - length xs ≡ c.0 = omega arith in (
      (
        length xs + c.0,
        omega (arith, c.1, length-append xs ys),
        get_or-append_right xs ys (length xs) (length xs + c.0) x refl (omega arith)
            ∙ (ap (λ i. get_or ys i x) same ∙ c.2),
      ),
      omega arith,
    )

module _ (s : Setting) (front es : List Entry) where
  -- the divisor in the longer list, under its number
  abbrev pub in_whole : {w : Word} → Divisor s front w → Divisor s (front ++ es) w
  in_whole d = relisted d (in_front front es d.entry d.listed)

  module _ {w w' : Word} (d : Divisor s front w) (e : Divisor s (front ++ es) w')
      (k : d.listed.0 ≡ e.listed.0) where
    -- one number is one entry
    same_entry : d.entry ≡ e.entry
    same_entry =
        sym ((in_front front es d.entry d.listed).2)
        ∙ (ap (λ i. get_or (front ++ es) i d.entry) k
        ∙ (get_or_default (front ++ es) e.listed.0 d.entry e.entry e.listed.1 ∙ e.listed.2))

    -- and with the words before it and behind it one word
    pub same_word : d.left ≡ e.left → d.right ≡ e.right → w ≡ w'
    same_word left right =
        sym d.spells
        ∙ (ap₂ (λ a b. a ++ (leading s.prime d.entry.polynomial ++ b)) left right
        ∙ (ap (λ (x : Entry). e.left ++ (leading s.prime x.polynomial ++ e.right)) same_entry
        ∙ e.spells))

    -- so one number and one signature are one multiple
    pub same_word_at : {τ : Monomial} → signature_at s front w d ≡ τ
        → signature_at s (front ++ es) w' e ≡ τ → w ≡ w'
    same_word_at i j =
        same_word (append_cancel_right d.left e.left d.entry.signature.left
        (ap (λ σ. σ.left) (i ∙ sym j) ∙ ap (λ (x : Entry). e.left ++ x.signature.left)
        (sym same_entry)))
        (append_cancel_left d.entry.signature.right d.right e.right
        (ap (λ σ. σ.right) (i ∙ sym j) ∙ ap (λ (x : Entry). x.signature.right ++ e.right)
        (sym same_entry)))
