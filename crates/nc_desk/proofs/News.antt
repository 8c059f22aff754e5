-- What a step brings: the lead of its new entry and the signatures of that entry's ambiguities, or
-- nothing.
-- The later snapshot has the new entry as its last one, where the outcome is an entry
-- (`entry_news`), and else no more entries than the earlier one (`no_news`).
use Rattle.nc_algebra.specs.Elements.{HasDegree, Setting, generator_weight}
use Rattle.nc_algebra.specs.Monomials.{Monomial, Sig, monomial_of, sig_of}
use Rattle.nc_algebra.specs.Polynomials.{Polynomial, leading}
use Rattle.nc_algebra.specs.Problems.{IsWithin, NamedProblem}
use Rattle.nc_algebra.specs.Words.{Word}
use Rattle.nc_desk.specs.Steps.{AreNews, IsBrought, IsStep}
use Rattle.nc_index.specs.Chosen.{lead_of, leads_of}
use Rattle.nc_index.specs.Pairs.{Lead}
use Rattle.nc_overlap.proofs.Lists.{image, preimage}
use Rattle.nc_overlap.specs.Overlaps.{AreNewSignatures}
use Rattle.nc_reduce.specs.Leads.{LeadsOf}
use Rattle.nc_snapshot.proofs.Snapshots.{entry_usable, entry_within}
use Rattle.nc_snapshot.specs.Leads.{IsLeadOf}
use Rattle.nc_snapshot.specs.Snapshots.{IsSnapshot, Signed, Snapshot, entry_of}
use Rattle.nc_theory.specs.Ambiguities.{NewAmbiguity}
use Rattle.nc_theory.specs.Runs.{BringsAmbiguity, Outcome, state_after}
use Rattle.nc_theory.specs.States.{Entry, State, Trace}
use Rattle.nc_theory.specs.Untraced.{untraced_entry}
use Rattle.std.proofs.Common.{Contains, List, Some, [], ap, arith, get_or, length, map, refl, subst, sym, ◌++◌, ◌-◌, ◌<◌, ◌∙◌, ◌∷◌, ◌≡◌, ◌≤◌, ◌↔◌}
use Rattle.std.proofs.lemmas.List.{get_or_push, length-map, length_push, map_push}
use Rattle.std.proofs.lemmas.Option.{get_or_from_slice_get}
use Rattle.std.specs.List.{All, slice_get}

-- traces do not show in the leads
untraced_leads : (s : Setting) (es : List Entry)
    → leads_of s (map untraced_entry es) ≡ leads_of s es
untraced_leads s [] = refl
untraced_leads s (e ∷ es) = ap (λ (ls : List Lead). lead_of s e ∷ ls) (untraced_leads s es)

-- the entry that an outcome makes
abbrev entry_at : Monomial → Polynomial → Trace → Entry
entry_at τ f trace = record { signature = τ; polynomial = f; trace = trace }

module _ (s later : Snapshot) (is : later.problem ≡ s.problem) (leads : List Lead)
    (listed : LeadsOf s leads) where
  -- the entries that the later snapshot has where the outcome at τ is this one
  abbrev entries_after : Monomial → Outcome → List Entry
  entries_after τ o = map untraced_entry (state_after s.state τ o).entries

  after : (step : IsStep s later)
      → later.state.entries ≡ entries_after step.signature step.outcome
  after step = ap (λ (x : State). x.entries) step.state

  -- leads over the one problem are leads over the other
  later_leads : (more : List Lead)
      → more ≡ leads_of s.problem.problem.setting later.state.entries → LeadsOf later more
  later_leads more =
      subst (λ (P : NamedProblem). more ≡ leads_of P.problem.setting later.state.entries) (sym is)

  -- ---- no new entry

  module _ (few : length later.state.entries ≤ length s.state.entries) where
    no_entry : (τ : Monomial) (o : Outcome) → later.state.entries ≡ entries_after τ o
        → (later.state.entries ≡ map untraced_entry s.state.entries)
        × ((ρ : Monomial) → ¬ BringsAmbiguity s.problem.problem.setting s.state τ o ρ)
    no_entry τ Outcome.covered i = (i, λ ρ b. b)
    no_entry τ (Outcome.settled j) i = (i, λ ρ b. b)
    no_entry τ (Outcome.a_syzygy trace) i = (i, λ ρ b. b)
    no_entry τ (Outcome.an_entry f trace) i =
        absurd (omega (
          arith,
          few,
          ap length i,
          length-map (state_after s.state τ (Outcome.an_entry f trace)).entries untraced_entry,
          length_push s.state.entries (entry_at τ f trace),
        ))

    pub no_news : IsStep s later → (found : List Sig) → found ≡ [] → AreNews s later leads found
    no_news step found none = record {
      listed = later_leads leads (listed
          ∙ (sym (untraced_leads s.problem.problem.setting s.state.entries)
          ∙ ap (leads_of s.problem.problem.setting)
          (sym (no_entry step.signature step.outcome (after step)).0)));
      exact = λ step σ. (
        λ c. absurd (omega (arith, (subst (λ l. Contains l σ) none c).1)),
        λ b. absurd ((no_entry step.signature step.outcome (after step)).1 (monomial_of σ) b.2),
      );
    }

  -- ---- a new entry, the last one of the later snapshot

  module _ (h : IsSnapshot later) (some : length s.state.entries < length later.state.entries)
      (e : Signed)
      (at : slice_get later.state.entries (length later.state.entries - 1) ≡ Some (entry_of e))
    where
      pub new_within : IsWithin s.problem.problem (monomial_of e.sig)
      new_within =
          subst (λ (P : NamedProblem). IsWithin P.problem (monomial_of e.sig)) is
          (entry_within later h (length later.state.entries - 1) (entry_of e) at)

      -- the outcome at τ is an entry with its signature and its polynomial
      abbrev IsOutcome : Monomial → Outcome → Type 0
      IsOutcome τ Outcome.covered = ⊥
      IsOutcome τ (Outcome.settled j) = ⊥
      IsOutcome τ (Outcome.a_syzygy trace) = ⊥
      IsOutcome τ (Outcome.an_entry f trace) = (τ ≡ monomial_of e.sig) × (f ≡ e.polynomial)

      is_outcome : (τ : Monomial) (o : Outcome) → later.state.entries ≡ entries_after τ o
          → IsOutcome τ o
      is_outcome τ Outcome.covered i =
          omega (arith, some, ap length i, length-map s.state.entries untraced_entry)
      is_outcome τ (Outcome.settled j) i =
          omega (arith, some, ap length i, length-map s.state.entries untraced_entry)
      is_outcome τ (Outcome.a_syzygy trace) i =
          omega (arith, some, ap length i, length-map s.state.entries untraced_entry)
      is_outcome τ (Outcome.an_entry f trace) i =
          (ap (λ (x : Entry). x.signature) last, ap (λ (x : Entry). x.polynomial) last)
        where
          whole : later.state.entries
              ≡ map untraced_entry s.state.entries ++ untraced_entry (entry_at τ f trace) ∷ []
          whole = i ∙ map_push untraced_entry s.state.entries (entry_at τ f trace)

          last : untraced_entry (entry_at τ f trace) ≡ entry_of e
          last =
              sym (get_or_push (map untraced_entry s.state.entries)
              (untraced_entry (entry_at τ f trace)) (entry_of e)
              (length later.state.entries - 1)
              (omega (
                arith,
                ap length whole,
                length_push (map untraced_entry s.state.entries)
                    (untraced_entry (entry_at τ f trace)),
              )))
              ∙ (ap (λ l. get_or l (length later.state.entries - 1) (entry_of e)) (sym whole)
              ∙ get_or_from_slice_get later.state.entries (length later.state.entries - 1)
              (entry_of e) (entry_of e) at)

      -- with what the search for ambiguities answers
      module _ (w : Word) (lead : IsLeadOf e.polynomial w)
          (degree : HasDegree later.problem.problem.setting e.sig) (more : List Lead)
          (added : more ≡ leads ++ record { word = w; signature = e.sig } ∷ []) (found : List Sig)
          (degrees : All (HasDegree s.problem.problem.setting) found)
          (exact : AreNewSignatures s.problem.problem s.state.entries w (monomial_of e.sig) found)
        where
          leads_is : leading s.problem.problem.setting.prime e.polynomial ≡ w
          leads_is =
              subst (λ (P : NamedProblem). leading P.problem.setting.prime e.polynomial ≡ w) is
              (lead.leads later.problem.problem.setting.prime
              (entry_usable later h (length later.state.entries - 1) (entry_of e) at).normal)

          new_degree : HasDegree s.problem.problem.setting e.sig
          new_degree = subst (λ (P : NamedProblem). HasDegree P.problem.setting e.sig) is degree

          degree_of : (q : Sig) → Contains found q → HasDegree s.problem.problem.setting q
          degree_of q c = subst (HasDegree s.problem.problem.setting) c.2 (degrees c.0 q c.1)

          same : (q q' : Sig) → HasDegree s.problem.problem.setting q
              → HasDegree s.problem.problem.setting q' → monomial_of q ≡ monomial_of q' → q ≡ q'
          same q q' d d' i = d ∙ (ap (sig_of (generator_weight s.problem.problem.setting)) i ∙ sym d')

          brought : (τ : Monomial) (o : Outcome) → IsOutcome τ o → (q : Sig) → Contains found q
              ↔ IsBrought s.problem.problem s.state τ o q
          brought τ Outcome.covered none q = absurd none
          brought τ (Outcome.settled j) none q = absurd none
          brought τ (Outcome.a_syzygy trace) none q = absurd none
          brought τ (Outcome.an_entry f trace) (i, j) q = (
            λ c. let b = (ambiguities (monomial_of q)).0 (image monomial_of found q c) in
                (degree_of q c, b.0, b.1),
            λ b. let p =
                preimage monomial_of found (monomial_of q)
                ((ambiguities (monomial_of q)).1 (b.1, b.2)) in
                subst (Contains found) (same p.0 q (degree_of p.0 p.1) b.0 p.2) p.1,
          )
            where
              ambiguities : (ρ : Monomial) → Contains (map monomial_of found) ρ
                  ↔ (IsWithin s.problem.problem ρ
                  × NewAmbiguity s.problem.problem.setting s.state.entries
                  (entry_at τ f trace) ρ)
              ambiguities =
                  exact (entry_at τ f trace) i
                  (ap (leading s.problem.problem.setting.prime) j ∙ leads_is)

          -- the leads with that of the new entry
          more_listed : (τ : Monomial) (o : Outcome) → IsOutcome τ o
              → later.state.entries ≡ entries_after τ o
              → more ≡ leads_of s.problem.problem.setting later.state.entries
          more_listed τ Outcome.covered none l = absurd none
          more_listed τ (Outcome.settled j) none l = absurd none
          more_listed τ (Outcome.a_syzygy trace) none l = absurd none
          more_listed τ (Outcome.an_entry f trace) (i, j) l =
              added ∙ (ap (λ m. m ++ record { word = w; signature = e.sig } ∷ []) listed
              ∙ (ap (λ (m : Lead). leads_of s.problem.problem.setting s.state.entries ++ m ∷ [])
              (λ k. record { word = word k; signature = signature k })
              ∙ (sym (map_push (lead_of s.problem.problem.setting) s.state.entries
              (entry_at τ f trace))
              ∙ (sym (untraced_leads s.problem.problem.setting
              (s.state.entries ++ entry_at τ f trace ∷ []))
              ∙ ap (leads_of s.problem.problem.setting) (sym l)))))
            where
              word : w ≡ leading s.problem.problem.setting.prime f
              word = sym (ap (leading s.problem.problem.setting.prime) j ∙ leads_is)

              signature : e.sig ≡ sig_of (generator_weight s.problem.problem.setting) τ
              signature =
                  new_degree ∙ ap (sig_of (generator_weight s.problem.problem.setting)) (sym i)

          pub entry_news : IsStep s later → AreNews s later more found
          entry_news step = record {
            listed = later_leads more (more_listed step.signature step.outcome
                (is_outcome step.signature step.outcome (after step)) (after step));
            exact = λ step. brought step.signature step.outcome
                (is_outcome step.signature step.outcome (after step));
          }
