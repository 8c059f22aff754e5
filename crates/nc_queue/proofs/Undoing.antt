-- All or none: what is new is added, and taken out again after a failure.
-- It is enough to add what is not there yet (`union_fresh`). Taking that out leaves the old
-- members, hence the old list (`undone`).
use Rattle.nc_algebra.specs.Monomials.{Sig}
use Rattle.nc_queue.proofs.Ascending.{contains_or_not, same_members}
use Rattle.nc_queue.specs.Queues.{IsAscending, IsDifference, IsUnion}
use Rattle.nc_sig.proofs.Equality.{sigs_same}
use Rattle.nc_sig.specs.Orders.{sigs_order}
use Rattle.std.proofs.Common.{Contains, List, ap, drop, inl, inr, map, subst, take, ℕ, ◌∙◌, sym, ◌≡◌, ◌⊎◌}
use Rattle.std.proofs.lemmas.List.{map-append, take-append-drop}
use Rattle.std.proofs.lemmas.List.Elements.{Contains-append_left}

pub first_ones : {A : Type 0} (f : A → Sig) (n : ℕ) (xs : List A) (σ : Sig)
    → Contains (map f (take n xs)) σ → Contains (map f xs) σ
first_ones f n xs σ c =
    subst (λ ys. Contains ys σ) (sym (map-append f (take n xs) (drop n xs))
    ∙ ap (map f) (take-append-drop n xs))
    (Contains-append_left (map f (take n xs)) (map f (drop n xs)) σ c)

-- it is enough to add what is not there
pub union_fresh : (old more fresh new : List Sig) → IsDifference more old fresh
    → IsUnion old fresh new → IsUnion old more new
union_fresh old more fresh new d u =
    λ σ. (λ c. there σ ((u σ).0 c), λ c. back σ c (contains_or_not sigs_order sigs_same old σ))
  where
    there : (σ : Sig) → Contains old σ ⊎ Contains fresh σ → Contains old σ ⊎ Contains more σ
    there σ (inl a) = inl a
    there σ (inr b) = inr ((d σ).0 b).0

    back : (σ : Sig) → Contains old σ ⊎ Contains more σ → Contains old σ ⊎ ¬ Contains old σ
        → Contains new σ
    back σ (inl a) o = (u σ).1 (inl a)
    back σ (inr b) (inl a) = (u σ).1 (inl a)
    back σ (inr b) (inr n) = (u σ).1 (inr ((d σ).1 (b, n)))

-- what was new is taken out, of which some came in
pub undone : (old more fresh part mid new : List Sig) → IsAscending old → IsAscending new
    → IsDifference more old fresh → ((σ : Sig) → Contains part σ → Contains fresh σ)
    → IsUnion old part mid → IsDifference mid fresh new → new ≡ old
undone old more fresh part mid new s t d p u h =
    same_members sigs_order sigs_same new old t s
    (λ σ. (λ c. there σ ((h σ).0 c), λ a. (h σ).1 ((u σ).1 (inl a), λ c. ((d σ).0 c).1 a)))
  where
    there : (σ : Sig) → Contains mid σ × ¬ Contains fresh σ → Contains old σ
    there σ c = elim ((u σ).0 c.0) [ inl a ↦ a | inr b ↦ absurd (c.1 (p σ b)) ]
