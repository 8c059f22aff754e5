-- Ambiguities with a new entry are meetings with it.
use Rattle.nc_algebra.specs.Elements.{Setting}
use Rattle.nc_algebra.specs.Monomials.{Monomial}
use Rattle.nc_overlap.specs.Overlaps.{MeetsEither}
use Rattle.nc_theory.proofs.Ambiguities.{from_meeting, to_meeting}
use Rattle.nc_theory.proofs.Meetings.{swap}
use Rattle.nc_theory.proofs.Fronts.{in_front, last_is, last_listed}
use Rattle.nc_theory.specs.Meetings.{MeetSomewhere}
use Rattle.nc_algebra.specs.Words.{Word}
use Rattle.nc_theory.specs.Ambiguities.{Ambiguity, NewAmbiguity}
use Rattle.nc_theory.specs.States.{Entry}
use Rattle.std.proofs.Common.{Contains, List, [], arith, inl, inr, length, subst, sym, ℕ, ◌++◌, ◌∷◌, ◌≡◌, ◌≤◌, ◌⊎◌}
use Rattle.std.proofs.lemmas.List.Elements.{Contains-push_cases}

module _ (s : Setting) (entries : List Entry) (new : Entry) (ρ : Monomial) where
  -- with the new one on one side, the other is an earlier entry or the new one too
  with_new : (e f : Entry) → Contains (entries ++ new ∷ []) f → e ≡ new → MeetSomewhere s e f ρ
      ⊎ MeetSomewhere s f e ρ → MeetSomewhere s new new ρ ⊎ MeetsEither s entries new ρ
  with_new e f c i m =
      subst (λ x. MeetSomewhere s x f ρ ⊎ MeetSomewhere s f x ρ → MeetSomewhere s new new ρ
      ⊎ MeetsEither s entries new ρ) (sym i) (go (Contains-push_cases entries new f c)) m
    where
      itself : (g : Entry) → new ≡ g → MeetSomewhere s new g ρ ⊎ MeetSomewhere s g new ρ
          → MeetSomewhere s new new ρ
      itself g j (inl h) = subst (λ x. MeetSomewhere s new x ρ) (sym j) h
      itself g j (inr h) = subst (λ x. MeetSomewhere s x new ρ) (sym j) h

      go : Contains entries f ⊎ (new ≡ f) → MeetSomewhere s new f ρ ⊎ MeetSomewhere s f new ρ
          → MeetSomewhere s new new ρ ⊎ MeetsEither s entries new ρ
      go (inl d) h = inr (f, d, swap h)
      go (inr j) h = inl (itself f j h)

  pub new_meets : NewAmbiguity s entries new ρ → MeetSomewhere s new new ρ
      ⊎ MeetsEither s entries new ρ
  new_meets n = go n.newest
    where
      meets : MeetSomewhere s n.ambiguity.high.entry n.ambiguity.low.entry ρ
          ⊎ MeetSomewhere s n.ambiguity.low.entry n.ambiguity.high.entry ρ
      meets = to_meeting s (entries ++ new ∷ []) ρ n.word n.ambiguity

      go : (length entries ≤ n.ambiguity.high.listed.0)
          ⊎ (length entries ≤ n.ambiguity.low.listed.0)
          → MeetSomewhere s new new ρ ⊎ MeetsEither s entries new ρ
      go (inl b) =
          with_new n.ambiguity.high.entry n.ambiguity.low.entry n.ambiguity.low.listed
          (sym (last_is entries new n.ambiguity.high.entry n.ambiguity.high.listed b)) meets
      go (inr b) =
          with_new n.ambiguity.low.entry n.ambiguity.high.entry n.ambiguity.high.listed
          (sym (last_is entries new n.ambiguity.low.entry n.ambiguity.low.listed b)) (swap meets)

  -- an ambiguity of the entries at two places
  abbrev Between : ℕ → ℕ → Type 0
  Between i j =
      (w : Word) × (a : Ambiguity s (entries ++ new ∷ []) ρ w)
      × (((a.high.listed.0 ≡ i) × (a.low.listed.0 ≡ j))
      ⊎ ((a.high.listed.0 ≡ j) × (a.low.listed.0 ≡ i)))

  first_new : (j : ℕ) → Between (length entries) j → NewAmbiguity s entries new ρ
  first_new j (w, a, inl h) =
      record { word = w; ambiguity = a; newest = inl (omega (arith, h.0)) }
  first_new j (w, a, inr h) =
      record { word = w; ambiguity = a; newest = inr (omega (arith, h.1)) }

  second_new : (i : ℕ) → Between i (length entries) → NewAmbiguity s entries new ρ
  second_new i (w, a, inl h) =
      record { word = w; ambiguity = a; newest = inr (omega (arith, h.1)) }
  second_new i (w, a, inr h) =
      record { word = w; ambiguity = a; newest = inl (omega (arith, h.0)) }

  pub meets_new : MeetSomewhere s new new ρ ⊎ MeetsEither s entries new ρ
      → NewAmbiguity s entries new ρ
  meets_new (inl m) =
      first_new (length entries) (from_meeting s (entries ++ new ∷ []) ρ new new
      (last_listed entries new) (last_listed entries new) m)
  meets_new (inr (e, c, inl m)) =
      second_new c.0 (from_meeting s (entries ++ new ∷ []) ρ e new
      (in_front entries (new ∷ []) e c) (last_listed entries new) m)
  meets_new (inr (e, c, inr m)) =
      first_new c.0 (from_meeting s (entries ++ new ∷ []) ρ new e (last_listed entries new)
      (in_front entries (new ∷ []) e c) m)
