-- What is found for a new entry, once it is sorted and rid of repeats.
use Rattle.nc_algebra.specs.Elements.{HasDegree}
use Rattle.nc_algebra.specs.Monomials.{Monomial, Sig, monomial_of}
use Rattle.nc_algebra.specs.Problems.{IsWithin, Problem}
use Rattle.nc_overlap.proofs.Additions.{adds_both, adds_same}
use Rattle.nc_overlap.proofs.Ambiguities.{meets_new, new_meets}
use Rattle.nc_overlap.specs.Overlaps.{AddsAmbiguities, MeetsEither}
use Rattle.nc_theory.specs.Meetings.{MeetSomewhere}
use Rattle.nc_theory.specs.Ambiguities.{NewAmbiguity}
use Rattle.nc_theory.specs.States.{Entry}
use Rattle.std.proofs.Common.{Contains, List, [], arith, inl, inr, map, ◌∷◌, ◌≡◌, ◌↔◌, ◌⊎◌}
use Rattle.std.specs.List.{All}

module _ (P : Problem) (entries : List Entry) (new : Entry) (none x y : List Sig) (is : none ≡ [])
    (itself : AddsAmbiguities P (MeetSomewhere P.setting new new) none x)
    (others : AddsAmbiguities P (MeetsEither P.setting entries new) x y) where
  whole : AddsAmbiguities P (NewAmbiguity P.setting entries new) none y
  whole = adds_same P (λ ρ. MeetSomewhere P.setting new new ρ ⊎ MeetsEither P.setting entries new ρ)
      (NewAmbiguity P.setting entries new) none y (meets_new P.setting entries new)
      (λ ρ w. new_meets P.setting entries new ρ)
      (adds_both P (MeetSomewhere P.setting new new) (MeetsEither P.setting entries new) none x y
      itself others)

  nothing : (l : List Sig) (ρ : Monomial) → l ≡ [] → ¬ Contains (map monomial_of l) ρ
  nothing [] ρ e c = omega (arith, c.1)
  nothing (σ ∷ l) ρ e c = cc

  pub found_degrees : All (HasDegree P.setting) y
  found_degrees = whole.degrees (no_items none is)
    where
      no_items : (l : List Sig) → l ≡ [] → All (HasDegree P.setting) l
      no_items [] e k d h = absurd (omega (arith, h))
      no_items (σ ∷ l) e k d h = cc

  pub found_exact : (ρ : Monomial) → Contains (map monomial_of y) ρ
      ↔ (IsWithin P ρ × NewAmbiguity P.setting entries new ρ)
  found_exact ρ = (λ c. go ((whole.exact ρ).0 c), λ w. (whole.exact ρ).1 (inr w))
    where
      go : Contains (map monomial_of none) ρ ⊎ (IsWithin P ρ × NewAmbiguity P.setting entries new ρ)
          → IsWithin P ρ × NewAmbiguity P.setting entries new ρ
      go (inl c) = absurd (nothing none ρ is c)
      go (inr w) = w
