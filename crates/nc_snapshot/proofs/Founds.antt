-- What is found, as a state of the theory, and its degrees.
-- What is found after an outcome is the state after it, without traces (`found_state`).
use Rattle.nc_algebra.specs.Elements.{HasDegree, Setting}
use Rattle.nc_algebra.specs.Monomials.{Sig, monomial_of}
use Rattle.nc_theory.specs.Untraced.{untraced, untraced_entry, untraced_syzygy}
use Rattle.nc_snapshot.specs.Outcomes.{found_after, outcome_of}
use Rattle.nc_snapshot.specs.Snapshots.{Found, HasDegrees, Signed, entry_of, state_of, syzygy_of}
use Rattle.nc_snapshot.specs.declared.outcome.Outcome.{Outcome}
use Rattle.nc_snapshot.specs.declared.outcome.Outcome.TheVariants.{Covered, Entry, Settled, Syzygy}
use Rattle.nc_theory.specs.Runs.{state_after}
use Rattle.nc_theory.specs.States.{Entry as Item, State, Syzygy as ZeroItem}
use Rattle.std.proofs.Common.{List, [], ap, ap₂, map, refl, sym, ℕ, ◌+◌, ◌++◌, ◌∷◌, ◌≡◌}
use Rattle.std.proofs.lemmas.List.Elements.{All-push}

-- what is kept has no trace to forget
untraced_entries : (es : List Signed) → map untraced_entry (map entry_of es) ≡ map entry_of es
untraced_entries [] = refl
untraced_entries (e ∷ es) = ap (λ (xs : List Item). entry_of e ∷ xs) (untraced_entries es)

untraced_syzygies : (hs : List Sig) → map untraced_syzygy (map syzygy_of hs) ≡ map syzygy_of hs
untraced_syzygies [] = refl
untraced_syzygies (σ ∷ hs) = ap (λ (xs : List ZeroItem). syzygy_of σ ∷ xs) (untraced_syzygies hs)

-- one more at the end
entries_more : (es : List Signed) (e : Signed) (x : Item) → entry_of e ≡ untraced_entry x
    → map entry_of (es ++ e ∷ []) ≡ map untraced_entry (map entry_of es ++ x ∷ [])
entries_more [] e x h = ap (λ (y : Item). y ∷ []) h
entries_more (d ∷ es) e x h = ap (λ (xs : List Item). entry_of d ∷ xs) (entries_more es e x h)

syzygies_more : (hs : List Sig) (σ : Sig) (x : ZeroItem) → syzygy_of σ ≡ untraced_syzygy x
    → map syzygy_of (hs ++ σ ∷ []) ≡ map untraced_syzygy (map syzygy_of hs ++ x ∷ [])
syzygies_more [] σ x h = ap (λ (y : ZeroItem). y ∷ []) h
syzygies_more (ρ ∷ hs) σ x h =
    ap (λ (xs : List ZeroItem). syzygy_of ρ ∷ xs) (syzygies_more hs σ x h)

abbrev the_state : List Item → List ZeroItem → ℕ → ℕ → State
the_state a b c d = record { entries = a; syzygies = b; covered = c; settled = d }

state_made : {a a' : List Item} {b b' : List ZeroItem} (c d : ℕ) → a ≡ a' → b ≡ b'
    → the_state a b c d ≡ the_state a' b' c d
state_made c d e h = ap₂ (λ x y. the_state x y c d) e h

-- what is found after an outcome is the state after it, without traces
pub found_state : (f : Found) (σ : Sig) (o : Outcome)
    → state_of (found_after f σ o) ≡ untraced
    (state_after (state_of f) (monomial_of σ) (outcome_of o))
found_state f σ Covered =
    state_made (f.covered + 1) f.settled (sym (untraced_entries f.entries))
    (sym (untraced_syzygies f.syzygies))
found_state f σ (Settled j) =
    state_made f.covered (f.settled + 1) (sym (untraced_entries f.entries))
    (sym (untraced_syzygies f.syzygies))
found_state f σ (Entry g trace) =
    state_made f.covered f.settled
    (entries_more f.entries (record { sig = σ; polynomial = g })
    (record { signature = monomial_of σ; polynomial = g; trace = trace }) refl)
    (sym (untraced_syzygies f.syzygies))
found_state f σ (Syzygy trace) =
    state_made f.covered f.settled (sym (untraced_entries f.entries))
    (syzygies_more f.syzygies σ (record { signature = monomial_of σ; trace = trace }) refl)

-- the degrees stay right
pub found_degrees : (s : Setting) (f : Found) (σ : Sig) (o : Outcome) → HasDegree s σ
    → HasDegrees s f → HasDegrees s (found_after f σ o)
found_degrees s f σ Covered h are = record { entries = are.entries; syzygies = are.syzygies }
found_degrees s f σ (Settled j) h are = record { entries = are.entries; syzygies = are.syzygies }
found_degrees s f σ (Entry g trace) h are =
    record {
      entries = All-push (λ e. HasDegree s e.sig) f.entries
          (record { sig = σ; polynomial = g }) are.entries h;
      syzygies = are.syzygies;
    }
found_degrees s f σ (Syzygy trace) h are =
    record { entries = are.entries; syzygies = All-push (HasDegree s) f.syzygies σ are.syzygies h }
