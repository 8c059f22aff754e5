-- States with the same items up to traces: what they cover, what becomes of a signature, and what
-- waits. They have the same outcomes and candidates (`moved_handles`, `moved_candidate`), and stay
-- such states with an outcome (`same_after`).
use Rattle.nc_algebra.specs.Elements.{IsLess, Setting}
use Rattle.nc_algebra.specs.Monomials.{Monomial, unit_monomial}
use Rattle.nc_algebra.specs.Problems.{Problem}
use Rattle.nc_algebra.specs.Words.{Word}
use Rattle.nc_theory.proofs.Untraced.{in_place, in_place_alike, in_place_listed, more_same, moved, moved_ambiguity, moved_best, moved_new, moved_reduction, moved_regular, moved_same, moved_start, moved_trivial}
use Rattle.nc_theory.specs.Untraced.{SameEntries, SameSyzygies, untraced, untraced_entry, untraced_syzygy}
use Rattle.nc_theory.specs.Ambiguities.{Ambiguity}
use Rattle.nc_theory.specs.Runs.{BringsAmbiguity, Handles, IsCandidate, IsNext, NoneWaits, Outcome, state_after}
use Rattle.nc_theory.specs.States.{State, Syzygy}
use Rattle.nc_theory.specs.Syzygies.{Covered, IsSyzygySignature}
use Rattle.std.proofs.Common.{List, Option, [], ap, ap₂, inl, inr, map, refl, sym, ℕ, ◌+◌, ◌++◌, ◌∙◌, ◌∷◌, ◌≡◌, ◌⊎◌}
use Rattle.std.proofs.lemmas.List.{map-append}

-- the same items, up to traces, and the same counts
abbrev pub SameStates : State → State → Type 0
SameStates state state' = untraced state ≡ untraced state'

pub same_entries : (state state' : State) → SameStates state state'
    → SameEntries state.entries state'.entries
same_entries state state' same = ap (λ (t : State). t.entries) same

pub same_syzygies : (state state' : State) → SameStates state state'
    → SameSyzygies state.syzygies state'.syzygies
same_syzygies state state' same = ap (λ (t : State). t.syzygies) same

pub moved_covered : (s : Setting) (state state' : State) → SameStates state state' → (τ : Monomial)
    → Covered s state τ → Covered s state' τ
moved_covered s state state' same τ c =
    record { by = c.by; is_syzygy = go c.is_syzygy; divides = c.divides }
  where
    hs : SameSyzygies state.syzygies state'.syzygies
    hs = same_syzygies state state' same

    go : IsSyzygySignature s state c.by → IsSyzygySignature s state' c.by
    go (inl (h, k, e)) =
        inl (
          in_place untraced_syzygy state.syzygies state'.syzygies hs h k,
          in_place_listed untraced_syzygy state.syzygies state'.syzygies hs h k,
          sym (ap (λ (g : Syzygy). g.signature)
              (in_place_alike untraced_syzygy state.syzygies state'.syzygies hs h k)) ∙ e,
        )
    go (inr t) =
        inr (moved_trivial s state.entries state'.entries (same_entries state state' same) c.by t)

pub moved_handles : (s : Setting) (state state' : State) → SameStates state state'
    → (τ : Monomial) (o : Outcome) → Handles s state τ o → Handles s state' τ o
moved_handles s state state' same τ o (Handles.is_covered c) =
    Handles.is_covered (moved_covered s state state' same τ c)
moved_handles s state state' same τ o (Handles.is_settled n u w d best r) =
    Handles.is_settled (λ c. n (moved_covered s state' state (sym same) τ c)) u w
    (moved s state.entries state'.entries (same_entries state state' same) w d)
    (moved_best s state.entries state'.entries (same_entries state state' same) τ w d best
    (moved s state.entries state'.entries (same_entries state state' same) w d)
    (moved_same s state.entries state'.entries (same_entries state state' same) w d))
    (λ q. r (moved_regular s state'.entries state.entries (sym (same_entries state state' same)) τ w
    q))
moved_handles s state state' same τ o (Handles.is_syzygy n starts reduces) =
    Handles.is_syzygy (λ c. n (moved_covered s state' state (sym same) τ c))
    (moved_start s state.entries state'.entries (same_entries state state' same) τ starts)
    (moved_reduction s state.entries state'.entries (same_entries state state' same)
    (λ σ. IsLess s σ τ) reduces)
moved_handles s state state' same τ o (Handles.is_entry n starts reduces) =
    Handles.is_entry (λ c. n (moved_covered s state' state (sym same) τ c))
    (moved_start s state.entries state'.entries (same_entries state state' same) τ starts)
    (moved_reduction s state.entries state'.entries (same_entries state state' same)
    (λ σ. IsLess s σ τ) reduces)

pub moved_brings : (s : Setting) (state state' : State) → SameStates state state'
    → (τ : Monomial) (o : Outcome) (ρ : Monomial) → BringsAmbiguity s state τ o ρ
    → BringsAmbiguity s state' τ o ρ
moved_brings s state state' same τ Outcome.covered ρ b = b
moved_brings s state state' same τ (Outcome.settled j) ρ b = b
moved_brings s state state' same τ (Outcome.a_syzygy t) ρ b = b
moved_brings s state state' same τ (Outcome.an_entry f t) ρ b =
    moved_new s state.entries state'.entries (record { signature = τ; polynomial = f; trace = t })
    (record { signature = τ; polynomial = f; trace = t }) (same_entries state state' same) refl ρ b

pub moved_candidate : (P : Problem) (state state' : State) → SameStates state state'
    → (τ : Monomial) → IsCandidate P state τ → IsCandidate P state' τ
moved_candidate P state state' same τ c = (c.0, go c.1)
  where
    go : ((i : ℕ) × (τ ≡ unit_monomial i)) ⊎ ((w : Word) × Ambiguity P.setting state.entries τ w)
        → ((i : ℕ) × (τ ≡ unit_monomial i)) ⊎ ((w : Word) × Ambiguity P.setting state'.entries τ w)
    go (inl u) = inl u
    go (inr (w, a)) =
        inr (
          w,
          moved_ambiguity P.setting state.entries state'.entries
              (same_entries state state' same) τ w a,
        )

pub moved_none : (P : Problem) (state state' : State) → SameStates state state'
    → (last : Option Monomial) → NoneWaits P state last → NoneWaits P state' last
moved_none P state state' same last n τ c = n τ (moved_candidate P state' state (sym same) τ c)

pub moved_next : (P : Problem) (state state' : State) → SameStates state state'
    → (last : Option Monomial) (τ : Monomial) → IsNext P state last τ → IsNext P state' last τ
moved_next P state state' same last τ n =
    record {
      candidate = moved_candidate P state state' same τ n.candidate;
      left = n.left;
      least = λ σ c a. n.least σ (moved_candidate P state' state (sym same) σ c) a;
    }

-- ---- the state with an outcome

pub same_after : (state state' : State) → SameStates state state' → (τ : Monomial) (o : Outcome)
    → SameStates (state_after state τ o) (state_after state' τ o)
same_after state state' same τ Outcome.covered =
    λ i. record {
      entries = (same i).entries;
      syzygies = (same i).syzygies;
      covered = (same i).covered + 1;
      settled = (same i).settled;
    }
same_after state state' same τ (Outcome.settled j) =
    λ i. record {
      entries = (same i).entries;
      syzygies = (same i).syzygies;
      covered = (same i).covered;
      settled = (same i).settled + 1;
    }
same_after state state' same τ (Outcome.an_entry f t) =
    λ i. record {
      entries = more i;
      syzygies = (same i).syzygies;
      covered = (same i).covered;
      settled = (same i).settled;
    }
  where
    more : SameEntries (state.entries ++ (record { signature = τ; polynomial = f; trace = t } ∷ []))
        (state'.entries ++ (record { signature = τ; polynomial = f; trace = t } ∷ []))
    more = more_same state.entries state'.entries
        (record { signature = τ; polynomial = f; trace = t })
        (record { signature = τ; polynomial = f; trace = t }) (same_entries state state' same) refl
same_after state state' same τ (Outcome.a_syzygy t) =
    λ i. record {
      entries = (same i).entries;
      syzygies = more i;
      covered = (same i).covered;
      settled = (same i).settled;
    }
  where
    more : SameSyzygies (state.syzygies ++ (record { signature = τ; trace = t } ∷ []))
        (state'.syzygies ++ (record { signature = τ; trace = t } ∷ []))
    more =
        map-append untraced_syzygy state.syzygies (record { signature = τ; trace = t } ∷ [])
        ∙ (ap (λ hs. hs ++ (untraced_syzygy (record { signature = τ; trace = t }) ∷ []))
        (same_syzygies state state' same)
        ∙ sym (map-append untraced_syzygy state'.syzygies
        (record { signature = τ; trace = t } ∷ [])))

-- ---- traces that are forgotten twice

map_twice : {X : Type 0} (f : X → X) → ((x : X) → f (f x) ≡ f x) → (xs : List X)
    → map f (map f xs) ≡ map f xs
map_twice f e [] = refl
map_twice f e (x ∷ xs) = ap₂ (λ y ys. y ∷ ys) (e x) (map_twice f e xs)

pub untraced_twice : (state : State) → SameStates (untraced state) state
untraced_twice state =
    λ i. record {
      entries = map_twice untraced_entry (λ e. refl) state.entries i;
      syzygies = map_twice untraced_syzygy (λ h. refl) state.syzygies i;
      covered = state.covered;
      settled = state.settled;
    }
