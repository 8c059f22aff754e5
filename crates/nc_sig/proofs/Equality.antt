-- Signatures that compare as equal are the same.
use Rattle.nc_algebra.proofs.Words.{word_laws}
use Rattle.nc_algebra.specs.Monomials.{Sig, compare_sigs}
use Rattle.nc_algebra.specs.Words.{compare_words}
use Rattle.nc_sig.specs.Orders.{sigs_order}
use Rattle.std.proofs.Common.{arith, Equal, Greater, Less, Ordering, ap, refl, subst, ◌≡◌}
use Rattle.std.specs.Bool.{Decides}
use Rattle.std.specs.Cmp.{Equal-is}
use Rattle.std.specs.FinMap.{nat_cmp-IsAntisymmetric}
use Rattle.std.specs.Ordering.{is_eq, nat_cmp, ordering_reverse, ordering_then}

parts : (o q : Ordering) → ordering_then o q ≡ Equal → (o ≡ Equal) × (q ≡ Equal)
parts Less q e = absurd (grind (arith, e))
parts Equal q e = (refl, e)
parts Greater q e = absurd (grind (arith, e))

-- of two that compare as equal
pub sigs_same : (σ τ : Sig) → compare_sigs σ τ ≡ Equal → σ ≡ τ
sigs_same σ τ e =
    let a = parts (nat_cmp σ.degree τ.degree)
    (ordering_then (nat_cmp σ.generator τ.generator)
    (ordering_then (compare_words σ.left τ.left) (compare_words σ.right τ.right))) e in
    let b = parts (nat_cmp σ.generator τ.generator)
    (ordering_then (compare_words σ.left τ.left) (compare_words σ.right τ.right)) a.1 in
    let d = parts (compare_words σ.left τ.left) (compare_words σ.right τ.right) b.1 in
    let i : σ.degree ≡ τ.degree = nat_cmp-IsAntisymmetric σ.degree τ.degree a.0 in
    let j : σ.generator ≡ τ.generator = nat_cmp-IsAntisymmetric σ.generator τ.generator b.0 in
    let k : σ.left ≡ τ.left = word_laws.same_eq σ.left τ.left (ap is_eq d.0) in
    let l : σ.right ≡ τ.right = word_laws.same_eq σ.right τ.right (ap is_eq d.1) in
    λ x. record { degree = i x; generator = j x; left = k x; right = l x }

same_itself : (σ : Sig) → compare_sigs σ σ ≡ Equal
same_itself σ = own (compare_sigs σ σ) (sigs_order.antisymm σ σ)
  where
    own : (o : Ordering) → o ≡ ordering_reverse o → o ≡ Equal
    own Less e = absurd (grind (arith, e))
    own Equal e = refl
    own Greater e = absurd (grind (arith, e))

-- what `==` answers
pub sigs_decide : (σ τ : Sig) → Decides (is_eq (compare_sigs σ τ)) (σ ≡ τ)
sigs_decide σ τ = (
  λ t. sigs_same σ τ ((Equal-is (compare_sigs σ τ)).0 t),
  λ e. (Equal-is (compare_sigs σ τ)).1
      (subst (λ ρ. compare_sigs σ ρ ≡ Equal) e (same_itself σ)),
)
