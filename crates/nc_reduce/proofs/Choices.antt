-- The divisor that the leads give is the one that a reduction chooses.
use Rattle.nc_algebra.specs.Elements.{Setting}
use Rattle.nc_algebra.specs.Monomials.{Sig}
use Rattle.nc_algebra.specs.Polynomials.{leading}
use Rattle.nc_algebra.specs.Words.{OccursAt, Word}
use Rattle.nc_index.specs.Chosen.{IsBelowSig, IsChosen}
use Rattle.nc_index.specs.declared.hit.Hit.{Hit}
use Rattle.nc_theory.proofs.OnePlace.{one_place}
use Rattle.nc_theory.specs.Places.{IsChoiceOf}
use Rattle.nc_theory.proofs.Determinism.{listed_same}
use Rattle.nc_theory.specs.States.{Entry}
use Rattle.std.proofs.Common.{List, Some, ap, arith, length, sym, ℕ, ◌++◌, ◌-◌, ◌∙◌, ◌≡◌, ◌≤◌}
use Rattle.std.proofs.lemmas.Option.{get_or_from_slice_get, slice_get_within}
use Rattle.std.specs.List.{slice_get}

module _ (s : Setting) (entries : List Entry) (β : Sig) (w : Word) (h : Hit)
    (found : IsChosen s entries w β (Some h)) where
  pub number_within : h.number ≤ length entries
  number_within = omega (arith, found.2, found.0.listed.1)

  -- the entry that is read
  module _ (e : Entry) (at : slice_get entries (h.number - 1) ≡ Some e) where
    entry_is : found.0.entry ≡ e
    entry_is =
        listed_same entries found.0.entry e found.0.listed (
          h.number - 1,
          slice_get_within entries (h.number - 1) e at,
          get_or_from_slice_get entries (h.number - 1) e e at,
        ) (omega (arith, found.2))

    spells : found.0.left ++ (leading s.prime e.polynomial ++ found.0.right) ≡ w
    spells =
        ap (λ (x : Entry). found.0.left ++ (leading s.prime x.polynomial ++ found.0.right))
        (sym entry_is) ∙ found.0.spells

    pub hit_stands : OccursAt (leading s.prime e.polynomial) w h.place
    hit_stands = (found.0.left, found.0.right, sym spells, found.3)

    pub hit_choice : (u : Word) (n : ℕ) (v : Word) → u ++ (leading s.prime e.polynomial ++ v) ≡ w
        → length u ≡ h.place → n ≡ h.number
        → IsChoiceOf s entries (IsBelowSig s β) w
        (Some (record { left = u; number = n; right = v }))
    hit_choice u n v stands place number =
        let around : (found.0.left ≡ u) × (found.0.right ≡ v) =
        one_place (leading s.prime e.polynomial) w found.0.left found.0.right u v spells stands
        (found.3 ∙ sym place) in
        (found.0, found.1, around.0, found.2 ∙ sym number, around.1)
