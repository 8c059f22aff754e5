-- New ambiguities have greater signatures than the one that was handled, and which signatures wait
-- after a step.
use Rattle.nc_algebra.proofs.Monomials.{monomial_laws}
use Rattle.nc_algebra.specs.Elements.{IsLess, generator_weight}
use Rattle.nc_algebra.specs.Monomials.{Monomial}
use Rattle.nc_algebra.specs.Polynomials.{Polynomial}
use Rattle.nc_algebra.specs.Primes.{IsField}
use Rattle.nc_algebra.specs.Problems.{IsWithin, Problem}
use Rattle.nc_algebra.specs.Sums.{Term}
use Rattle.nc_algebra.specs.Words.{Word}
use Rattle.nc_theory.proofs.Completeness.{Invariant, IsReached, entries_after, high_old, invariant, low_old, new_entry, reached_or_left}
use Rattle.nc_theory.proofs.Relisted.{relisted_ambiguity}
use Rattle.nc_theory.proofs.Fronts.{front_or_later, last_is}
use Rattle.nc_theory.specs.Ambiguities.{NewAmbiguity}
use Rattle.nc_theory.specs.Reductions.{ReductionAt}
use Rattle.nc_theory.specs.Runs.{BringsAmbiguity, Handles, IsAfter, IsCandidate, IsNext, IsWaiting, Outcome, SequentialRun, Starts, state_after}
use Rattle.nc_theory.specs.States.{Entry, Start, State, Step}
use Rattle.std.proofs.Common.{Contains, List, None, Option, Some, [], inl, inr, length, subst, ℕ, ◌↔◌, ◌∷◌, ◌≡◌, ◌≢◌, ◌≤◌, ◌⊎◌}
use Rattle.std.proofs.lemmas.List.Elements.{Contains-push_cases}

module _ (P : Problem) (field : IsField P.setting.prime) {n : ℕ} {state : State}
    {last : Option Monomial} (run : SequentialRun P n state last) (τ : Monomial)
    (next : IsNext P state last τ) where
  inv : Invariant P state last
  inv = invariant P field run

  from_reached : (ρ : Monomial) → ¬ IsReached P.setting (Some τ) ρ → IsLess P.setting τ ρ
  from_reached ρ n = elim (reached_or_left P (Some τ) ρ) [ inl r ↦ absurd (n r) | inr l ↦ l ]

  ascends : {f kept : Polynomial} {t : Term Word} {start : Start} {steps : List Step}
      → Starts P.setting state.entries τ f start
      → ReductionAt P.setting state.entries τ f (t ∷ kept) steps → (ρ : Monomial)
      → NewAmbiguity P.setting state.entries
      (new_entry τ (t ∷ kept) (record { start = start; steps = steps })) ρ → IsLess P.setting τ ρ
  ascends {kept = kept} {t = t} {start = start} {steps = steps} starts reduction ρ a =
      from_reached ρ (λ r. go r (Contains-push_cases state.entries new a.ambiguity.low.entry
      a.ambiguity.low.listed) a.newest)
    where
      new : Entry
      new = new_entry τ (t ∷ kept) (record { start = start; steps = steps })

      go : IsReached P.setting (Some τ) ρ → Contains state.entries a.ambiguity.low.entry
          ⊎ (new ≡ a.ambiguity.low.entry)
          → (length state.entries ≤ a.ambiguity.high.listed.0)
          ⊎ (length state.entries ≤ a.ambiguity.low.listed.0) → ⊥
      go r (inr e) o =
          low_old P field state last inv τ next starts reduction ρ a.word a.ambiguity r e
      go r (inl k) (inr b) =
          low_old P field state last inv τ next starts reduction ρ a.word a.ambiguity r
          (last_is state.entries new a.ambiguity.low.entry a.ambiguity.low.listed b)
      go r (inl k) (inl b) =
          high_old P field state last inv τ next starts reduction ρ a.word a.ambiguity r k
          (last_is state.entries new a.ambiguity.high.entry a.ambiguity.high.listed b)

  pub ascent : {o : Outcome} → Handles P.setting state τ o → (ρ : Monomial)
      → BringsAmbiguity P.setting state τ o ρ → IsLess P.setting τ ρ
  ascent (Handles.is_covered k) ρ a = absurd a
  ascent (Handles.is_settled n u w d b m) ρ a = absurd a
  ascent (Handles.is_syzygy n starts reduction) ρ a = absurd a
  ascent (Handles.is_entry n starts reduction) ρ a = ascends starts reduction ρ a

  -- a candidate after the step is one before it, or new
  candidate_back : (o : Outcome) (ρ : Monomial) → IsCandidate P (state_after state τ o) ρ
      → IsCandidate P state ρ ⊎ (IsWithin P ρ × BringsAmbiguity P.setting state τ o ρ)
  candidate_back Outcome.covered ρ c = inl c
  candidate_back (Outcome.settled j) ρ c = inl c
  candidate_back (Outcome.a_syzygy trace) ρ c = inl c
  candidate_back (Outcome.an_entry f trace) ρ (within, inl u) = inl (within, inl u)
  candidate_back (Outcome.an_entry f trace) ρ (within, inr (w, amb)) =
      go (front_or_later state.entries (new ∷ []) amb.low.entry amb.low.listed)
      (front_or_later state.entries (new ∷ []) amb.high.entry amb.high.listed)
    where
      new : Entry
      new = record { signature = τ; polynomial = f; trace = trace }

      go : ((k : Contains state.entries amb.low.entry) × (k.0 ≡ amb.low.listed.0))
          ⊎ (Contains (new ∷ []) amb.low.entry × (length state.entries ≤ amb.low.listed.0))
          → ((h : Contains state.entries amb.high.entry) × (h.0 ≡ amb.high.listed.0))
          ⊎ (Contains (new ∷ []) amb.high.entry × (length state.entries ≤ amb.high.listed.0))
          → IsCandidate P state ρ ⊎ (IsWithin P ρ
          × BringsAmbiguity P.setting state τ (Outcome.an_entry f trace) ρ)
      go (inr (_, b)) o = inr (within, record { word = w; ambiguity = amb; newest = inr b })
      go (inl k) (inr (_, b)) = inr (within, record { word = w; ambiguity = amb; newest = inl b })
      go (inl (k, _)) (inl (h, _)) = inl (within, inr (w, relisted_ambiguity amb h k))

  -- and a candidate stays one
  candidate_on : (o : Outcome) (ρ : Monomial) → IsCandidate P state ρ
      → IsCandidate P (state_after state τ o) ρ
  candidate_on o ρ (within, inl u) = (within, inl u)
  candidate_on o ρ (within, inr (w, amb)) = (
    within,
    inr (
      w,
      relisted_ambiguity amb (entries_after P.setting state τ o amb.high.entry amb.high.listed)
          (entries_after P.setting state τ o amb.low.entry amb.low.listed),
    ),
  )

  candidate_new : (o : Outcome) (ρ : Monomial) → IsWithin P ρ
      → BringsAmbiguity P.setting state τ o ρ → IsCandidate P (state_after state τ o) ρ
  candidate_new Outcome.covered ρ within a = absurd a
  candidate_new (Outcome.settled j) ρ within a = absurd a
  candidate_new (Outcome.a_syzygy trace) ρ within a = absurd a
  candidate_new (Outcome.an_entry f trace) ρ within a = (within, inr (a.word, a.ambiguity))

  after_last : (last' : Option Monomial) (ρ : Monomial) → IsAfter P last' τ → IsLess P.setting τ ρ
      → IsAfter P last' ρ
  after_last None ρ a l = tt
  after_last (Some κ) ρ a l = (monomial_laws (generator_weight P.setting)).trans κ τ ρ a l

  pub waiting : {o : Outcome} → Handles P.setting state τ o → (ρ : Monomial)
      → IsWaiting P (state_after state τ o) (Some τ) ρ
      ↔ ((IsWaiting P state last ρ × (ρ ≢ τ))
      ⊎ (IsWithin P ρ × BringsAmbiguity P.setting state τ o ρ))
  waiting {o} h ρ = (λ c. forth c.1 (candidate_back o ρ c.0), back)
    where
      forth : IsLess P.setting τ ρ → IsCandidate P state ρ
          ⊎ (IsWithin P ρ × BringsAmbiguity P.setting state τ o ρ)
          → (IsWaiting P state last ρ × (ρ ≢ τ))
          ⊎ (IsWithin P ρ × BringsAmbiguity P.setting state τ o ρ)
      forth l (inl c) =
          inl (
            (c, after_last last ρ next.left l),
            λ e. (monomial_laws (generator_weight P.setting)).irrefl τ
                (subst (IsLess P.setting τ) e l),
          )
      forth l (inr a) = inr a

      other : ρ ≢ τ → (ρ ≡ τ) ⊎ IsLess P.setting τ ρ → IsLess P.setting τ ρ
      other n (inl e) = absurd (n e)
      other n (inr l) = l

      back : (IsWaiting P state last ρ × (ρ ≢ τ))
          ⊎ (IsWithin P ρ × BringsAmbiguity P.setting state τ o ρ)
          → IsWaiting P (state_after state τ o) (Some τ) ρ
      back (inl (w, n)) = (candidate_on o ρ w.0, other n (next.least ρ w.0 w.1))
      back (inr (within, a)) = (candidate_new o ρ within a, ascent h ρ a)
