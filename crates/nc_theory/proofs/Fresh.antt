-- What is newer, told of the newer state and two counts (`fresh`), is what is newer than the older
-- state (`unaffected`); and it does not matter whether the newer state has traces (`moved_fresh`).
-- An index in the front is one in the whole, and what stands behind the front has greater indices.
-- A multiple is known by its entry and the words around it, so the word that an outcome came from
-- is the same in both (`same_word`).
use Rattle.nc_algebra.specs.Elements.{Setting}
use Rattle.nc_algebra.specs.Monomials.{Monomial}
use Rattle.nc_algebra.specs.Polynomials.{Polynomial}
use Rattle.nc_algebra.specs.Words.{Word}
use Rattle.nc_theory.proofs.Fronts.{front_or_later, in_back, in_whole, same_word, same_word_at}
use Rattle.nc_theory.proofs.Unaffected as parts
use Rattle.nc_theory.proofs.Unaffected.{NewlyCovered, StartedFrom, Unaffected, extended}
use Rattle.nc_theory.proofs.Untraced.{in_place, in_place_alike, in_place_listed, moved, moved_multiple, moved_regular, moved_same, moved_trivial}
use Rattle.nc_theory.proofs.UntracedStates.{SameStates, same_entries, same_syzygies}
use Rattle.nc_theory.specs.Divisors.{Divisor, number_of, signature_at}
use Rattle.nc_theory.specs.Newer.{HasNewerMultiple, HasNewerRegular, IsNewerListed, IsNewerTrivial, IsNewlyCovered}
use Rattle.nc_theory.specs.Runs.{Handles, Outcome, Starts}
use Rattle.nc_theory.specs.Stale.{BeganWith, CameFrom, IsFresh, Keeps, SettledBy}
use Rattle.nc_theory.specs.States.{Entry, Start, State, Syzygy}
use Rattle.nc_theory.specs.Untraced.{untraced_syzygy}
use Rattle.std.proofs.Common.{◌≤◌, Contains, List, ap, arith, inl, inr, length, refl, subst, sym, ℕ, ◌+◌, ◌++◌, ◌∙◌, ◌≡◌, ◌⊎◌}

module _ (s : Setting) (old : State) (es : List Entry) (hs : List Syzygy) (covered settled : ℕ)
    (τ : Monomial) where
  abbrev now : State
  now = extended old es hs covered settled

  abbrev n : ℕ
  n = length old.entries

  abbrev m : ℕ
  m = length old.syzygies

  newly : NewlyCovered s old es hs τ → IsNewlyCovered s now n m τ
  newly k = record { by = k.by; is_newer = go k.newer; divides = k.divides }
    where
      go : ((h : Syzygy) × Contains hs h × (h.signature ≡ k.by))
          ⊎ IsNewerTrivial s (old.entries ++ es) n k.by
          → IsNewerListed (old.syzygies ++ hs) m k.by ⊎ IsNewerTrivial s (old.entries ++ es) n k.by
      go (inl (h, c, e)) =
          let b = in_back old.syzygies hs h c in inl (h, b.0, b.1, e)
      go (inr t) = inr t

  newly_back : IsNewlyCovered s now n m τ → NewlyCovered s old es hs τ
  newly_back k = record { by = k.by; divides = k.divides; newer = go k.is_newer }
    where
      go : IsNewerListed (old.syzygies ++ hs) m k.by ⊎ IsNewerTrivial s (old.entries ++ es) n k.by
          → ((h : Syzygy) × Contains hs h × (h.signature ≡ k.by))
          ⊎ IsNewerTrivial s (old.entries ++ es) n k.by
      go (inl (h, c, l, e)) =
          elim (front_or_later old.syzygies hs h c) [
            | inl f ↦ absurd (omega (arith, f.0.1, f.1, l))
            | inr f ↦ inl (h, f.0, e)
          ]
      go (inr t) = inr t

  -- the word of a best multiple over the older state is that of the newer one with its number
  settled_word : {w v : Word} (d : Divisor s old.entries w) → signature_at s old.entries w d ≡ τ
      → SettledBy s (old.entries ++ es) τ (number_of s old.entries w d) v → w ≡ v
  settled_word d signed (b, e) =
      same_word_at s old.entries es d b.divisor (omega (arith, e)) signed b.signed

  started_word : {f : Polynomial} {start : Start} → Starts s old.entries τ f start → {v : Word}
      → BeganWith s (old.entries ++ es) τ start v → StartedFrom s old τ start v
  started_word (Starts.at_generator i e) (d, is) = let none : ⊥ = cc in absurd none
  started_word (Starts.at_multiple not_unit w d best regular) {v} (b, is) =
      subst (StartedFrom s old τ (Start.a_multiple d.left (number_of s old.entries w d) d.right))
      same (record { divisor = d; best = best; is = refl })
    where
      number : d.listed.0 ≡ b.listed.0
      number =
          let k : d.listed.0 + 1 ≡ b.listed.0 + 1 = cc in omega (arith, k)

      left : d.left ≡ b.left
      left = cc

      right : d.right ≡ b.right
      right = cc

      same : w ≡ v
      same = same_word s old.entries es d b number left right

  came : {o : Outcome} → Handles s old τ o → {w : Word} → CameFrom s (old.entries ++ es) τ o w
      → parts.CameFrom s old τ o w
  came (Handles.is_covered k) c = absurd c
  came (Handles.is_settled n not_unit w d best not_regular) c =
      subst (parts.CameFrom s old τ (Outcome.settled (number_of s old.entries w d)))
      (settled_word d best.signed c) (parts.CameFrom.from_settled w d best refl)
  came (Handles.is_syzygy n starts reduction) c =
      parts.CameFrom.from_syzygy (started_word starts c)
  came (Handles.is_entry n starts reduction) c =
      parts.CameFrom.from_entry (started_word starts c)

  keeps : {o : Outcome} → Handles s old τ o → {w : Word} → Keeps s (old.entries ++ es) τ o w
      → parts.Keeps s old τ o w
  keeps (Handles.is_covered k) c = absurd c
  keeps (Handles.is_settled n not_unit w d best not_regular) c =
      subst (parts.Keeps s old τ (Outcome.settled (number_of s old.entries w d)))
      (settled_word d best.signed c) (parts.Keeps.keeps_settled w d best refl)
  keeps (Handles.is_syzygy n starts reduction) c = absurd c
  keeps (Handles.is_entry n starts reduction) nz = parts.Keeps.keeps_entry nz

  came_back : {o : Outcome} {w : Word} → parts.CameFrom s old τ o w
      → CameFrom s (old.entries ++ es) τ o w
  came_back (parts.CameFrom.from_settled w d best e) =
      (record { divisor = in_whole s old.entries es d; signed = best.signed }, e)
  came_back (parts.CameFrom.from_entry g) = (in_whole s old.entries es g.divisor, g.is)
  came_back (parts.CameFrom.from_syzygy g) = (in_whole s old.entries es g.divisor, g.is)

  keeps_back : {o : Outcome} {w : Word} → parts.Keeps s old τ o w
      → Keeps s (old.entries ++ es) τ o w
  keeps_back (parts.Keeps.keeps_settled w d best e) =
      (record { divisor = in_whole s old.entries es d; signed = best.signed }, e)
  keeps_back (parts.Keeps.keeps_entry nz) = nz

  pub fresh : {o : Outcome} → Handles s old τ o → Unaffected s old es hs τ o → IsFresh s now n m τ o
  fresh h u =
      record {
        uncovered = λ k. u.uncovered (newly_back k);
        start = λ w c. u.start w (came h c);
        kept = λ w c. u.kept w (keeps h c);
      }

  pub unaffected : {o : Outcome} → IsFresh s now n m τ o → Unaffected s old es hs τ o
  unaffected f =
      record {
        uncovered = λ k. f.uncovered (newly k);
        start = λ w c. f.start w (came_back c);
        kept = λ w c. f.kept w (keeps_back c);
      }

-- ---- with and without traces

module _ (s : Setting) (state state' : State) (same : SameStates state state') (n m : ℕ)
    (τ : Monomial) where
  abbrev there : {w : Word} → Divisor s state.entries w → Divisor s state'.entries w
  there {w} d = moved s state.entries state'.entries (same_entries state state' same) w d

  still_later : {w : Word} (d : Divisor s state.entries w) → n ≤ d.listed.0 → n ≤ (there d).listed.0
  still_later {w} d l =
      omega (
        arith,
        l,
        (moved_same s state.entries state'.entries (same_entries state state' same) w d).number,
      )

  moved_regular_after : (w : Word) → HasNewerRegular s state.entries n τ w
      → HasNewerRegular s state'.entries n τ w
  moved_regular_after w (r, l) = (
    moved_regular s state.entries state'.entries (same_entries state state' same) τ w r,
    still_later r.divisor l,
  )

  moved_multiple_after : (w : Word) → HasNewerMultiple s state.entries n τ w
      → HasNewerMultiple s state'.entries n τ w
  moved_multiple_after w (b, l) = (
    moved_multiple s state.entries state'.entries (same_entries state state' same) τ w b,
    still_later b.divisor l,
  )

  moved_newly : IsNewlyCovered s state n m τ → IsNewlyCovered s state' n m τ
  moved_newly k = record { by = k.by; is_newer = go k.is_newer; divides = k.divides }
    where
      go : IsNewerListed state.syzygies m k.by ⊎ IsNewerTrivial s state.entries n k.by
          → IsNewerListed state'.syzygies m k.by ⊎ IsNewerTrivial s state'.entries n k.by
      go (inl (h, c, l, e)) =
          inl (
            in_place untraced_syzygy state.syzygies state'.syzygies
                (same_syzygies state state' same) h c,
            in_place_listed untraced_syzygy state.syzygies state'.syzygies
                (same_syzygies state state' same) h c,
            l,
            sym (ap (λ (x : Syzygy). x.signature) (in_place_alike untraced_syzygy state.syzygies
                state'.syzygies (same_syzygies state state' same) h c)) ∙ e,
          )
      go (inr (t, l)) =
          inr (
            moved_trivial s state.entries state'.entries (same_entries state state' same) k.by t,
            l,
          )

  moved_settled : (j : ℕ) (w : Word) → SettledBy s state.entries τ j w
      → SettledBy s state'.entries τ j w
  moved_settled j w (b, e) = (
    moved_multiple s state.entries state'.entries (same_entries state state' same) τ w b,
    e ∙ (moved_same s state.entries state'.entries (same_entries state state' same) w
        b.divisor).number,
  )

  moved_began : (start : Start) (w : Word) → BeganWith s state.entries τ start w
      → BeganWith s state'.entries τ start w
  moved_began start w (d, e) =
      let k =
      moved_same s state.entries state'.entries (same_entries state state' same) w d in (
        there d,
        e ∙ (λ i. Start.a_multiple (k.left i) (k.number i) (k.right i)),
      )

  moved_came : (o : Outcome) (w : Word) → CameFrom s state.entries τ o w
      → CameFrom s state'.entries τ o w
  moved_came Outcome.covered w c = c
  moved_came (Outcome.settled j) w c = moved_settled j w c
  moved_came (Outcome.an_entry f trace) w c = moved_began trace.start w c
  moved_came (Outcome.a_syzygy trace) w c = moved_began trace.start w c

  moved_keeps : (o : Outcome) (w : Word) → Keeps s state.entries τ o w
      → Keeps s state'.entries τ o w
  moved_keeps Outcome.covered w c = c
  moved_keeps (Outcome.settled j) w c = moved_settled j w c
  moved_keeps (Outcome.an_entry f trace) w c = c
  moved_keeps (Outcome.a_syzygy trace) w c = c

pub moved_fresh : (s : Setting) (state state' : State) → SameStates state state' → (n m : ℕ)
    (τ : Monomial) (o : Outcome) → IsFresh s state n m τ o → IsFresh s state' n m τ o
moved_fresh s state state' same n m τ o f =
    record {
      uncovered = λ k. f.uncovered (moved_newly s state' state (sym same) n m τ k);
      start = λ w c v b. f.start w (moved_came s state' state (sym same) n m τ o w c) v
          (moved_multiple_after s state' state (sym same) n m τ v b);
      kept = λ w c r. f.kept w (moved_keeps s state' state (sym same) n m τ o w c)
          (moved_regular_after s state' state (sym same) n m τ w r);
    }
