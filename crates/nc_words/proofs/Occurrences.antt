-- Places where a word stands in a word.
use Rattle.nc_algebra.proofs.Orders.{nat_order}
use Rattle.nc_algebra.specs.Words.{OccursAt, Word}
use Rattle.nc_words.proofs.Letters.{letters_decide, same_letter}
use Rattle.nc_words.specs.Places.{IsPlaceFrom}
use Rattle.std.proofs.Common.{Bool, false, true, None, Some, ap, arith, drop, inl, inr, length, length-append, refl, subst, sym, take, ℕ, ◌+◌, ◌++◌, ◌<◌, ◌∙◌, ◌≡◌, ◌≤◌, ◌⊎◌}
use Rattle.std.proofs.lemmas.Bool.{false≢true}
use Rattle.std.proofs.lemmas.List.{drop-drop, drop_at, length-take-le, take-append-drop, take_at}
use Rattle.std.specs.Cmp.Lexicographic.{pointwise}

-- none of the places from the one to before the other
abbrev pub NoneBetween : Word → Word → ℕ → ℕ → Type 0
NoneBetween v w from at = (q : ℕ) → from ≤ q → q < at → ¬ OccursAt v w q

pub occurs_within : (v w : Word) (q : ℕ) → OccursAt v w q → q + length v ≤ length w
occurs_within v w q (u, x, e, h) =
    omega (arith, ap length e, length-append u (v ++ x), length-append v x, h)

-- the letters that stand there
pub occurs_read : (v w : Word) (q : ℕ) → OccursAt v w q → take (length v) (drop q w) ≡ v
occurs_read v w q (u, x, e, h) =
    ap (λ z. take (length v) (drop q z)) e
    ∙ (ap (λ z. take (length v) z) (drop_at u (v ++ x) q h) ∙ take_at v x (length v) refl)

pub read_occurs : (v w : Word) (q : ℕ) → q ≤ length w → take (length v) (drop q w) ≡ v
    → OccursAt v w q
read_occurs v w q h e = (take q w, drop (q + length v) w, sym pieces, length-take-le q w h)
  where
    pieces : take q w ++ (v ++ drop (q + length v) w) ≡ w
    pieces =
        ap (λ z. take q w ++ (z ++ drop (q + length v) w)) (sym e)
        ∙ (ap (λ z. take q w ++ (take (length v) (drop q w) ++ z)) (sym (drop-drop (length v) q w))
        ∙ (ap (λ z. take q w ++ z) (take-append-drop (length v) (drop q w))
        ∙ take-append-drop q w))

pub none_further : (v w : Word) (from at : ℕ) → NoneBetween v w from at → ¬ OccursAt v w at
    → NoneBetween v w from (at + 1)
none_further v w from at before here q h l o = go (nat_order q at)
  where
    go : (q < at) ⊎ ((q ≡ at) ⊎ (at < q)) → ⊥
    go (inl k) = before q h k o
    go (inr (inl k)) = here (subst (OccursAt v w) k o)
    go (inr (inr k)) = omega (arith, l, k)

pub place_found : (v w : Word) (from at : ℕ) → from ≤ at → NoneBetween v w from at → OccursAt v w at
    → IsPlaceFrom v w from (Some at)
place_found v w from at h before here = (h, here, λ r k o. go r k o (nat_order r at))
  where
    go : (r : ℕ) → from ≤ r → OccursAt v w r → (r < at) ⊎ ((r ≡ at) ⊎ (at < r)) → at ≤ r
    go r k o (inl l) = absurd (before r k l o)
    go r k o (inr l) = grind (arith, l)

pub none_found : (v w : Word) (from at : ℕ) → length w < at + length v → NoneBetween v w from at
    → IsPlaceFrom v w from None
none_found v w from at h before q k o = before q k (omega (arith, h, occurs_within v w q o)) o

-- what a test of the letters tells
pub tested_occurs : (v w : Word) (q k : ℕ) (b : Bool) → k ≡ length v → q ≤ length w
    → b ≡ pointwise same_letter (take k (drop q w)) v → b ≡ true → OccursAt v w q
tested_occurs v w q k b n h e t =
    read_occurs v w q h (ap (λ m. take m (drop q w)) (sym n)
    ∙ (letters_decide (take k (drop q w)) v).0 (sym e ∙ t))

pub tested_apart : (v w : Word) (q k : ℕ) (b : Bool) → k ≡ length v
    → b ≡ pointwise same_letter (take k (drop q w)) v → b ≡ false → ¬ OccursAt v w q
tested_apart v w q k b n e f o =
    false≢true (sym f ∙ (e ∙ (letters_decide (take k (drop q w)) v).1 (ap (λ m. take m (drop q w)) n
    ∙ occurs_read v w q o)))
