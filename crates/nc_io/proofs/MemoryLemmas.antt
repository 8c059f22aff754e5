-- Bytes in memory, as a source.
-- `left_after_piece`: the piece that is taken, and what is left then, are what was left before.
use Rattle.std.proofs.Common.{◌≡◌, ℕ, ◌+◌, ◌-◌, ◌≤◌, List, ◌++◌, length, take, drop, sym, ap, ◌∙◌, arith}
use Rattle.std.proofs.lemmas.List.{take_at, take-append-drop, drop-drop, length-take-le, length-drop}

-- what is left is what was given and what is left then
pub left_after_piece : (xs piece more : List ℕ) (at n : ℕ)
    → piece ≡ take ((at + n) - at) (drop at xs) → at + n ≤ length xs
    → drop at xs ≡ take n (piece ++ more) ++ drop (at + n) xs
left_after_piece xs piece more at n given within =
    let count : (at + n) - at ≡ n = omega arith in
    let is : piece ≡ take n (drop at xs) = given ∙ ap (λ k. take k (drop at xs)) count in
    let long : length piece ≡ n =
    ap (λ (l : List ℕ). length l) is
    ∙ length-take-le n (drop at xs) (omega (arith, length-drop at xs)) in
    sym (ap (λ (l : List ℕ). l ++ drop (at + n) xs) (take_at piece more n long ∙ is)
    ∙ ap (λ (l : List ℕ). take n (drop at xs) ++ l) (sym (drop-drop n at xs))
    ∙ take-append-drop n (drop at xs))
