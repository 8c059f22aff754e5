-- What stands around one monomial in another.
use Rattle.nc_algebra.proofs.Words.{weight-append}
use Rattle.nc_algebra.specs.Monomials.{Divides, Monomial, times}
use Rattle.nc_algebra.specs.Words.{Word, word_weight}
use Rattle.nc_words.proofs.Letters.{letters_decide, same_letter}
use Rattle.std.proofs.Common.{ap, ap₂, arith, drop, false, inl, inr, length, length-append, refl, sym, take, true, ◌++◌, ◌-◌, ◌<◌, ◌∙◌, ◌≡◌, ◌⊎◌, ◌≢◌}
use Rattle.std.proofs.lemmas.Bool.{false≢true}
use Rattle.std.proofs.lemmas.List.{drop_at, take-append-drop, take_at}
use Rattle.std.specs.Cmp.Lexicographic.{pointwise}

-- what each side tells
pub front_is : (a w u : Word) → pointwise same_letter (drop (length w - length a) w) a ≡ true
    → u ≡ take (length w - length a) w → u ++ a ≡ w
front_is a w u e h =
    ap₂ (λ x y. x ++ y) h (sym ((letters_decide (drop (length w - length a) w) a).0 e))
    ∙ take-append-drop (length w - length a) w

pub back_is : (b w v : Word) → pointwise same_letter (take (length b) w) b ≡ true
    → v ≡ drop (length b) w → b ++ v ≡ w
back_is b w v e h =
    ap₂ (λ x y. x ++ y) (sym ((letters_decide (take (length b) w) b).0 e)) h
    ∙ take-append-drop (length b) w

pub divided : (σ τ : Monomial) (u v : Word) → τ.generator ≡ σ.generator → u ++ σ.left ≡ τ.left
    → σ.right ++ v ≡ τ.right → times u σ v ≡ τ
divided σ τ u v g l r = λ i. record { left = l i; generator = sym g i; right = r i }

-- where one side is another
pub front_apart : (σ τ : Monomial) (a w : Word) → a ≡ σ.left → w ≡ τ.left
    → pointwise same_letter (drop (length w - length a) w) a ≡ false → ¬ Divides σ τ
front_apart σ τ a w i j f (u, v, d) =
    let e : pointwise same_letter (drop (length τ.left - length σ.left) τ.left) σ.left ≡ false =
    ap₂ (λ x y. pointwise same_letter (drop (length y - length x) y) x) (sym i) (sym j) ∙ f in
    let whole : u ++ σ.left ≡ τ.left = ap (λ ρ. ρ.left) d in
    let stands : drop (length τ.left - length σ.left) τ.left ≡ σ.left =
    ap (λ w. drop (length w - length σ.left) w) (sym whole)
    ∙ drop_at u σ.left (length (u ++ σ.left) - length σ.left)
    (omega (arith, length-append u σ.left)) in
    false≢true (sym e ∙ (letters_decide (drop (length τ.left - length σ.left) τ.left) σ.left).1
    stands)

pub back_apart : (σ τ : Monomial) (b w : Word) → b ≡ σ.right → w ≡ τ.right
    → pointwise same_letter (take (length b) w) b ≡ false → ¬ Divides σ τ
back_apart σ τ b w i j f (u, v, d) =
    let e : pointwise same_letter (take (length σ.right) τ.right) σ.right ≡ false =
    ap₂ (λ x y. pointwise same_letter (take (length x) y) x) (sym i) (sym j) ∙ f in
    let whole : σ.right ++ v ≡ τ.right = ap (λ ρ. ρ.right) d in
    let stands : take (length σ.right) τ.right ≡ σ.right =
    ap (take (length σ.right)) (sym whole) ∙ take_at σ.right v (length σ.right) refl in
    false≢true (sym e ∙ (letters_decide (take (length σ.right) τ.right) σ.right).1 stands)

-- where the generators differ, or a side of the first weighs more
pub no_divisor : (σ τ : Monomial) → (τ.generator ≢ σ.generator)
    ⊎ ((word_weight τ.left < word_weight σ.left) ⊎ (word_weight τ.right < word_weight σ.right))
    → ¬ Divides σ τ
no_divisor σ τ (inl n) (u, v, d) = n (ap (λ ρ. ρ.generator) (sym d))
no_divisor σ τ (inr (inl h)) (u, v, d) =
    omega (arith, h, ap (λ ρ. word_weight ρ.left) d, weight-append u σ.left)
no_divisor σ τ (inr (inr h)) (u, v, d) =
    omega (arith, h, ap (λ ρ. word_weight ρ.right) d, weight-append σ.right v)
