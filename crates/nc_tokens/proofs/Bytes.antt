-- Bytes that are the same, and bytes that are not.
use Rattle.std.proofs.Common.{Bool, List, bytes_eq, false, refl, true, ℕ, ◌≡◌}
use Rattle.std.proofs.lemmas.Slice.Eq.{bytes_eq-Decides}

pub bytes_same : (xs : List ℕ) → bytes_eq xs xs ≡ true
bytes_same xs = (bytes_eq-Decides xs xs).1 refl

pub bytes_apart : (xs ys : List ℕ) → (xs ≡ ys → ⊥) → bytes_eq xs ys ≡ false
bytes_apart xs ys h = by_test (bytes_eq xs ys) refl
  where
    by_test : (b : Bool) → bytes_eq xs ys ≡ b → b ≡ false
    by_test true e = absurd (h ((bytes_eq-Decides xs ys).0 e))
    by_test false e = refl
