-- Places of a word in a word, by how many letters stand before them.
use Rattle.nc_algebra.specs.Words.{Word}
use Rattle.nc_theory.proofs.Determinism.{fronts_same}
use Rattle.std.proofs.Common.{ap, length, sym, ◌++◌, ◌∙◌, ◌≡◌}
use Rattle.std.proofs.lemmas.List.{append_cancel_left}

-- a place is known by how many letters stand before it
pub one_place : (v w x y a b : Word) → x ++ (v ++ y) ≡ w → a ++ (v ++ b) ≡ w → length x ≡ length a
    → (x ≡ a) × (y ≡ b)
one_place v w x y a b e d n =
    let left : x ≡ a = fronts_same x (v ++ y) a (v ++ b) (e ∙ sym d) n in (
      left,
      append_cancel_left v y b
          (append_cancel_left a (v ++ y) (v ++ b) (ap (λ z. z ++ (v ++ y)) (sym left)
          ∙ (e ∙ sym d))),
    )
