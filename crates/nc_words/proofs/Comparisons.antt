-- Comparisons letter by letter, in pieces.
use Rattle.nc_algebra.proofs.Words.{weight-append}
use Rattle.nc_algebra.specs.Words.{Word, compare_letters, word_weight}
use Rattle.std.proofs.Common.{Bool, false, true, Equal, Greater, Less, Ordering, [], ap, ap₂, arith, drop, inl, inr, length, length-append, nat_cmp, refl, suc, sym, take, zero, ℕ, ◌+◌, ◌++◌, ◌∙◌, ◌∷◌, ◌≡◌, ◌≤◌, ◌⊎◌}
use Rattle.std.proofs.lemmas.Bool.{false≢true}
use Rattle.std.specs.Cmp.Lexicographic.{slice_cmp}
use Rattle.std.specs.Cmp.{nat_cmp_is}
use Rattle.std.specs.Ordering.{is_ne, ordering_then}

pub then_assoc : (o q r : Ordering)
    → ordering_then (ordering_then o q) r ≡ ordering_then o (ordering_then q r)
then_assoc Less q r = refl
then_assoc Equal q r = refl
then_assoc Greater q r = refl

-- the first n letters, and then the others
pub compare_cut : (n : ℕ) (u v : Word) → n ≤ length u → n ≤ length v
    → slice_cmp compare_letters u v ≡ ordering_then
    (slice_cmp compare_letters (take n u) (take n v))
    (slice_cmp compare_letters (drop n u) (drop n v))
compare_cut zero u v h k = refl
compare_cut (suc n) [] v h k = absurd (omega arith)
compare_cut (suc n) (x ∷ u) [] h k = absurd (omega arith)
compare_cut (suc n) (x ∷ u) (y ∷ v) h k =
    ap (λ o. ordering_then (compare_letters x y) o) (compare_cut n u v (omega arith) (omega arith))
    ∙ sym (then_assoc (compare_letters x y) (slice_cmp compare_letters (take n u) (take n v))
    (slice_cmp compare_letters (drop n u) (drop n v)))

take_front : (n : ℕ) (a b : Word) → n ≤ length a → take n (a ++ b) ≡ take n a
take_front zero a b h = refl
take_front (suc n) [] b h = absurd (omega arith)
take_front (suc n) (x ∷ a) b h = ap (λ w. x ∷ w) (take_front n a b (omega arith))

-- the same where the first n letters stand in pieces of their own
pub compare_fronts : (n : ℕ) (a b c d : Word) (o : Ordering) → n ≤ length a → n ≤ length c
    → o ≡ slice_cmp compare_letters (take n a) (take n c)
    → slice_cmp compare_letters (a ++ b) (c ++ d) ≡ ordering_then o
    (slice_cmp compare_letters (drop n (a ++ b)) (drop n (c ++ d)))
compare_fronts n a b c d o h k e =
    compare_cut n (a ++ b) (c ++ d) (omega (arith, length-append a b))
    (omega (arith, length-append c d))
    ∙ ap (λ q. ordering_then q (slice_cmp compare_letters (drop n (a ++ b)) (drop n (c ++ d))))
    (ap₂ (slice_cmp compare_letters) (take_front n a b h) (take_front n c d k) ∙ sym e)

-- where one of the words has ended
pub compare_ends : (a b c d : Word) → (a ≡ [] → a ++ b ≡ []) → (c ≡ [] → c ++ d ≡ [])
    → (length a ≡ 0) ⊎ (length c ≡ 0)
    → nat_cmp (length a) (length c) ≡ slice_cmp compare_letters (a ++ b) (c ++ d)
compare_ends [] b [] d e f h = sym (ap₂ (slice_cmp compare_letters) (e refl) (f refl))
compare_ends [] b (y ∷ c) d e f h =
    sym (nat_cmp_is 0 (suc (length c)) Less (omega arith))
    ∙ sym (ap (λ w. slice_cmp compare_letters w (y ∷ (c ++ d))) (e refl))
compare_ends (x ∷ a) b [] d e f h =
    sym (nat_cmp_is (suc (length a)) 0 Greater (omega arith))
    ∙ sym (ap (slice_cmp compare_letters (x ∷ (a ++ b))) (f refl))
compare_ends (x ∷ a) b (y ∷ c) d e f (inl h) = absurd (omega (arith, h))
compare_ends (x ∷ a) b (y ∷ c) d e f (inr h) = absurd (omega (arith, h))

pub weight_of_three : (a b c : Word) → word_weight (a ++ (b ++ c)) ≡ word_weight a + word_weight b
    + word_weight c
weight_of_three a b c = omega (arith, weight-append a (b ++ c), weight-append b c)

-- an order that decides, and one that doesn't
pub order_decides : (o q : Ordering) (b : Bool) → b ≡ is_ne o → b ≡ true → ordering_then o q ≡ o
order_decides Less q b e h = refl
order_decides Equal q b e h = absurd (false≢true (sym e ∙ h))
order_decides Greater q b e h = refl

pub order_passes : (o q : Ordering) (b : Bool) → b ≡ is_ne o → b ≡ false → ordering_then o q ≡ q
order_passes Less q b e h = absurd (false≢true (sym h ∙ e))
order_passes Equal q b e h = refl
order_passes Greater q b e h = absurd (false≢true (sym h ∙ e))
