-- An outcome found over an older state is the outcome over a newer one, where nothing newer bears
-- on it. A divisor over the longer list is one over the front under the same number, or its entry
-- is newer and has a greater number (`front_or_later`). So what was chosen is still chosen
-- (`chosen_on`), and the best multiple is still the best (`best_on`); start and reduction are the
-- same (`stands`). The other way (`stood`): a newer entry with a lesser word would give another
-- best multiple (`not_beaten`), and a newer regular divisor of a kept word is excluded by
-- `kept_clear`.
use Rattle.nc_algebra.proofs.Sums.{zero_number}
use Rattle.nc_algebra.proofs.Words.{word_irrefl, word_total, word_trans}
use Rattle.nc_algebra.specs.Elements.{IsLess, IsZeroPolynomial, Setting}
use Rattle.nc_algebra.specs.Monomials.{Monomial}
use Rattle.nc_algebra.specs.Polynomials.{Polynomial, coefficient}
use Rattle.nc_algebra.specs.Primes.{IsField, IsZero}
use Rattle.nc_algebra.specs.Words.{IsWordLess, Word}
use Rattle.nc_theory.proofs.Reductions.{kept_clear, kept_leads, kept_tail}
use Rattle.nc_theory.proofs.Fronts.{front_or_later, in_front, in_whole, same_word_at}
use Rattle.nc_theory.proofs.Relisted.{relisted}
use Rattle.nc_theory.specs.Divisors.{Divisor, IsBestMultiple, IsChosenDivisor, RegularDivisor, signature_at}
use Rattle.nc_theory.specs.Reductions.{Reduction, ReductionAt}
use Rattle.nc_theory.specs.Runs.{Handles, Outcome, Starts}
use Rattle.nc_theory.proofs.Unaffected.{extended, CameFrom, Keeps, NewMultiple, NewRegular, NewlyCovered, StartedFrom, Unaffected}
use Rattle.nc_theory.specs.States.{Entry, Start, State, Step, Syzygy}
use Rattle.nc_theory.specs.Syzygies.{Covered, IsSyzygySignature, TrivialSyzygy}
use Rattle.std.proofs.Common.{ℕ, ◌≡◌, ◌+◌, ◌<◌, ◌≤◌, ◌⊎◌, List, ◌++◌, length, refl, ◌∙◌, subst, inl, inr, arith, Contains}
use Rattle.std.proofs.lemmas.List.Elements.{Contains-append_cases, Contains-append_right}

module _ (s : Setting) (field : IsField s.prime) (old : State) (nonzero : (e : Entry)
    → Contains old.entries e → ¬ IsZeroPolynomial s e.polynomial) (es : List Entry)
    (hs : List Syzygy) (covered settled : ℕ) where
  abbrev pub now : State
  now = extended old es hs covered settled

  -- the divisor in the longer list
  abbrev on : (w : Word) → Divisor s old.entries w → Divisor s (old.entries ++ es) w
  on w d = in_whole s old.entries es d

  back : (w : Word) (d : Divisor s (old.entries ++ es) w)
      → ((e : Divisor s old.entries w) × (e.entry ≡ d.entry) × (e.listed.0 ≡ d.listed.0)
      × (e.left ≡ d.left) × (e.right ≡ d.right))
      ⊎ (Contains es d.entry × (length old.entries ≤ d.listed.0))
  back w d = go (front_or_later old.entries es d.entry d.listed)
    where
      go : ((l : Contains old.entries d.entry) × (l.0 ≡ d.listed.0))
          ⊎ (Contains es d.entry × (length old.entries ≤ d.listed.0))
          → ((e : Divisor s old.entries w) × (e.entry ≡ d.entry) × (e.listed.0 ≡ d.listed.0)
          × (e.left ≡ d.left) × (e.right ≡ d.right))
          ⊎ (Contains es d.entry × (length old.entries ≤ d.listed.0))
      go (inl (l, e)) =
          inl (
            relisted d l,
            refl,
            e,
            refl,
            refl,
          )
      go (inr r) = inr r

  covered_or_newly : (τ : Monomial) → Covered s now τ → Covered s old τ ⊎ NewlyCovered s old es hs τ
  covered_or_newly τ k = go k.is_syzygy
    where
      go : IsSyzygySignature s now k.by → Covered s old τ ⊎ NewlyCovered s old es hs τ
      go (inl (h, c, e)) = listed (Contains-append_cases old.syzygies hs h c)
        where
          listed : Contains old.syzygies h ⊎ Contains hs h → Covered s old τ
              ⊎ NewlyCovered s old es hs τ
          listed (inl d) =
              inl (record { by = k.by; is_syzygy = inl (h, d, e); divides = k.divides })
          listed (inr d) = inr (record { by = k.by; divides = k.divides; newer = inl (h, d, e) })
      go (inr t) =
          both (front_or_later old.entries es t.first t.first_listed)
          (front_or_later old.entries es t.second t.second_listed)
        where
          both : ((d : Contains old.entries t.first) × (d.0 ≡ t.first_listed.0))
              ⊎ (Contains es t.first × (length old.entries ≤ t.first_listed.0))
              → ((c : Contains old.entries t.second) × (c.0 ≡ t.second_listed.0))
              ⊎ (Contains es t.second × (length old.entries ≤ t.second_listed.0))
              → Covered s old τ ⊎ NewlyCovered s old es hs τ
          both (inr (_, b)) o =
              inr (record { by = k.by; divides = k.divides; newer = inr (t, inl b) })
          both (inl d) (inr (_, b)) =
              inr (record { by = k.by; divides = k.divides; newer = inr (t, inr b) })
          both (inl (d, _)) (inl (c, _)) =
              inl (record {
                by = k.by;
                is_syzygy = inr
                    (record {
                      first = t.first;
                      first_listed = d;
                      second = t.second;
                      second_listed = c;
                      m = t.m;
                      greater = t.greater;
                    });
                divides = k.divides;
              })

  module _ (τ : Monomial) where
    chosen_on : (w : Word) (d : Divisor s old.entries w)
        → IsChosenDivisor s old.entries (λ σ. IsLess s σ τ) w d
        → IsChosenDivisor s (old.entries ++ es) (λ σ. IsLess s σ τ) w (on w d)
    chosen_on w d chosen =
        record {
          allowed = chosen.allowed;
          least = λ e a. go e a (front_or_later old.entries es e.entry e.listed);
        }
      where
        go : (e : Divisor s (old.entries ++ es) w)
            → IsLess s (signature_at s (old.entries ++ es) w e) τ
            → ((l : Contains old.entries e.entry) × (l.0 ≡ e.listed.0))
            ⊎ (Contains es e.entry × (length old.entries ≤ e.listed.0))
            → (d.listed.0 + 1 < e.listed.0 + 1)
            ⊎ ((d.listed.0 + 1 ≡ e.listed.0 + 1) × (length d.left ≤ length e.left))
        go e a (inl (l, i)) =
            subst (λ n. (d.listed.0 + 1 < n + 1)
            ⊎ ((d.listed.0 + 1 ≡ n + 1) × (length d.left ≤ length e.left))) i
            (chosen.least (relisted e l) a)
        go e a (inr (c, b)) = inl (omega (arith, b, d.listed.1))

    best_on : (w : Word) (d : Divisor s old.entries w) → IsBestMultiple s old.entries τ w d
        → ((v : Word) → NewMultiple s old es hs τ v → ¬ IsWordLess v w)
        → IsBestMultiple s (old.entries ++ es) τ w (on w d)
    best_on w d best none =
        record {
          signed = best.signed;
          least = λ v e i. go v e i (front_or_later old.entries es e.entry e.listed);
        }
      where
        go : (v : Word) (e : Divisor s (old.entries ++ es) v)
            → signature_at s (old.entries ++ es) v e ≡ τ
            → ((l : Contains old.entries e.entry) × (l.0 ≡ e.listed.0))
            ⊎ (Contains es e.entry × (length old.entries ≤ e.listed.0)) → IsWordLess w v
            ⊎ ((w ≡ v) × (d.listed.0 + 1 ≤ e.listed.0 + 1))
        go v e i (inl (l, j)) =
            subst (λ n. IsWordLess w v ⊎ ((w ≡ v) × (d.listed.0 + 1 ≤ n + 1))) j
            (best.least v (relisted e l) i)
        go v e i (inr (c, b)) = place (word_total w v)
          where
            place : IsWordLess w v ⊎ ((w ≡ v) ⊎ IsWordLess v w) → IsWordLess w v
                ⊎ ((w ≡ v) × (d.listed.0 + 1 ≤ e.listed.0 + 1))
            place (inl m) = inl m
            place (inr (inl j)) = inr (j, omega (arith, b, d.listed.1))
            place (inr (inr m)) = absurd (none v (record { divisor = e; signed = i }, b) m)

    -- a reduction is the same one, where no kept word has a newer regular divisor
    pub reduction_on : {f kept : Polynomial} {steps : List Step}
        → ReductionAt s old.entries τ f kept steps
        → ((x : Word) → ¬ IsZero s.prime (coefficient kept x) → ¬ NewRegular s old es hs τ x)
        → ReductionAt s (old.entries ++ es) τ f kept steps
    reduction_on (Reduction.finished n) none = Reduction.finished n
    reduction_on (Reduction.subtract w d v chosen c small q rest) none =
        Reduction.subtract w d (on w v) (chosen_on w v chosen) c small q (reduction_on rest none)
    reduction_on (Reduction.keep {f = f} {kept = kept} {steps = steps} w d not_any c e rest) none =
        Reduction.keep w d (λ v a. go v a (front_or_later old.entries es v.entry v.listed)) c e
        (reduction_on rest (λ x nz. none x
        (kept_tail s field old.entries nonzero (λ σ. IsLess s σ τ) f kept steps w d c e rest x
        nz)))
      where
        go : (v : Divisor s (old.entries ++ es) w)
            → IsLess s (signature_at s (old.entries ++ es) w v) τ
            → ((l : Contains old.entries v.entry) × (l.0 ≡ v.listed.0))
            ⊎ (Contains es v.entry × (length old.entries ≤ v.listed.0)) → ⊥
        go v a (inl (l, i)) =
            not_any (relisted v l) a
        go v a (inr (k, b)) =
            none w (kept_leads s field old.entries nonzero (λ σ. IsLess s σ τ)
            (Reduction.keep w d not_any c e rest) (record { coefficient = c; key = w }) kept
            refl).nonzero (record { divisor = v; below = a }, b)

    regular_on : (w : Word) → RegularDivisor s old.entries τ w
        → RegularDivisor s (old.entries ++ es) τ w
    regular_on w r = record { divisor = on w r.divisor; below = r.below }

    starts_on : {f : Polynomial} {start : Start} → Starts s old.entries τ f start
        → ((w : Word) → StartedFrom s old τ start w → (v : Word) → NewMultiple s old es hs τ v
        → ¬ IsWordLess v w) → Starts s (old.entries ++ es) τ f start
    starts_on (Starts.at_generator i e) none = Starts.at_generator i e
    starts_on (Starts.at_multiple not_unit w d best regular) none =
        Starts.at_multiple not_unit w (on w d)
        (best_on w d best (none w (record { divisor = d; best = best; is = refl })))
        (regular_on w regular)

    uncovered : ¬ Covered s old τ → ¬ NewlyCovered s old es hs τ → ¬ Covered s now τ
    uncovered n m k = elim (covered_or_newly τ k) [ inl c ↦ n c | inr c ↦ m c ]

    covered_on : Covered s old τ → Covered s now τ
    covered_on k = record { by = k.by; is_syzygy = go k.is_syzygy; divides = k.divides }
      where
        go : IsSyzygySignature s old k.by → IsSyzygySignature s now k.by
        go (inl (h, c, e)) = inl (h, in_front old.syzygies hs h c, e)
        go (inr t) =
            inr (record {
              first = t.first;
              first_listed = in_front old.entries es t.first t.first_listed;
              second = t.second;
              second_listed = in_front old.entries es t.second t.second_listed;
              m = t.m;
              greater = t.greater;
            })

    newly_covers : NewlyCovered s old es hs τ → Covered s now τ
    newly_covers k = record { by = k.by; is_syzygy = go k.newer; divides = k.divides }
      where
        go : ((h : Syzygy) × Contains hs h × (h.signature ≡ k.by))
            ⊎ ((t : TrivialSyzygy s (old.entries ++ es) k.by)
            × ((length old.entries ≤ t.first_listed.0)
            ⊎ (length old.entries ≤ t.second_listed.0))) → IsSyzygySignature s now k.by
        go (inl (h, c, e)) = inl (h, Contains-append_right old.syzygies hs h c, e)
        go (inr (t, c)) = inr t

    none_regular : (w : Word) → ¬ RegularDivisor s old.entries τ w → ¬ NewRegular s old es hs τ w
        → ¬ RegularDivisor s (old.entries ++ es) τ w
    none_regular w n m r = go (front_or_later old.entries es r.divisor.entry r.divisor.listed)
      where
        go : ((l : Contains old.entries r.divisor.entry) × (l.0 ≡ r.divisor.listed.0))
            ⊎ (Contains es r.divisor.entry × (length old.entries ≤ r.divisor.listed.0)) → ⊥
        go (inl (l, e)) =
            n (record {
              divisor = relisted r.divisor l;
              below = r.below;
            })
        go (inr (c, b)) = m (r, b)

    -- where nothing newer bears on it, the outcome stands
    pub stands : {o : Outcome} → Handles s old τ o → (o ≡ Outcome.covered)
        ⊎ Unaffected s old es hs τ o → Handles s now τ o
    stands (Handles.is_covered k) u = Handles.is_covered (covered_on k)
    stands (Handles.is_settled n not_unit w d best not_regular) (inl e) =
        let none : ⊥ = cc in absurd none
    stands (Handles.is_settled n not_unit w d best not_regular) (inr u) =
        Handles.is_settled (uncovered n u.uncovered) not_unit w (on w d)
        (best_on w d best (u.start w (CameFrom.from_settled w d best refl)))
        (none_regular w not_regular (u.kept w (Keeps.keeps_settled w d best refl)))
    stands (Handles.is_syzygy n starts reduction) (inl e) = let none : ⊥ = cc in absurd none
    stands (Handles.is_syzygy n starts reduction) (inr u) =
        Handles.is_syzygy (uncovered n u.uncovered)
        (starts_on starts (λ w g. u.start w (CameFrom.from_syzygy g)))
        (reduction_on reduction (λ x nz. absurd (nz (zero_number s.prime))))
    stands (Handles.is_entry n starts reduction) (inl e) = let none : ⊥ = cc in absurd none
    stands (Handles.is_entry n starts reduction) (inr u) =
        Handles.is_entry (uncovered n u.uncovered)
        (starts_on starts (λ w g. u.start w (CameFrom.from_entry g)))
        (reduction_on reduction (λ x nz. u.kept x (Keeps.keeps_entry nz)))

    -- a best multiple over the newer state with the number of an older one has its word, so no
    -- newer entry has a lesser one
    not_beaten : (w : Word) (d : Divisor s old.entries w) → IsBestMultiple s old.entries τ w d
        → (w' : Word) (e : Divisor s (old.entries ++ es) w')
        → IsBestMultiple s (old.entries ++ es) τ w' e → d.listed.0 ≡ e.listed.0 → (v : Word)
        → NewMultiple s old es hs τ v → ¬ IsWordLess v w
    not_beaten w d best w' e best' k v m l = go (best'.least v m.0.divisor m.0.signed)
      where
        same : w ≡ w'
        same = same_word_at s old.entries es d e k best.signed best'.signed

        go : IsWordLess w' v ⊎ ((w' ≡ v) × (e.listed.0 + 1 ≤ m.0.divisor.listed.0 + 1)) → ⊥
        go (inl h) = word_irrefl v (word_trans v w' v (subst (IsWordLess v) same l) h)
        go (inr (i, _)) = word_irrefl v (subst (IsWordLess v) (same ∙ i) l)

    started : {f : Polynomial} {start : Start} → Starts s (old.entries ++ es) τ f start → (w : Word)
        → StartedFrom s old τ start w → (v : Word) → NewMultiple s old es hs τ v → ¬ IsWordLess v w
    started (Starts.at_generator i e) w g v m l = let none : ⊥ = impossible g.is in none
      where
        impossible : Start.a_generator i ≡ Start.a_multiple g.divisor.left (g.divisor.listed.0 + 1)
            g.divisor.right → ⊥
        impossible h = cc
    started (Starts.at_multiple not_unit w' e best regular) w g v m l =
        not_beaten w g.divisor g.best w' e best (number g.is) v m l
      where
        number : Start.a_multiple e.left (e.listed.0 + 1) e.right ≡ Start.a_multiple g.divisor.left
            (g.divisor.listed.0 + 1) g.divisor.right → g.divisor.listed.0 ≡ e.listed.0
        number h = let k : e.listed.0 + 1 ≡ g.divisor.listed.0 + 1 = cc in omega (arith, k)

    -- an outcome that stands over the newer state was covered, or nothing newer bears on it
    pub stood : {o : Outcome} → ((e : Entry) → Contains (old.entries ++ es) e
        → ¬ IsZeroPolynomial s e.polynomial) → Handles s now τ o → (o ≡ Outcome.covered)
        ⊎ Unaffected s old es hs τ o
    stood alive (Handles.is_covered k) = inl refl
    stood alive (Handles.is_settled n not_unit w e best not_regular) =
        inr (record {
          uncovered = λ k. n (newly_covers k);
          start = λ v g. start v g;
          kept = λ v g. kept v g;
        })
      where
        start : (v : Word) → CameFrom s old τ (Outcome.settled (e.listed.0 + 1)) v → (x : Word)
            → NewMultiple s old es hs τ x → ¬ IsWordLess x v
        start v (CameFrom.from_settled w' d best' i) =
            not_beaten w' d best' w e best (omega (arith, i))

        kept : (v : Word) → Keeps s old τ (Outcome.settled (e.listed.0 + 1)) v
            → ¬ NewRegular s old es hs τ v
        kept v (Keeps.keeps_settled w' d best' i) r =
            not_regular (subst (RegularDivisor s (old.entries ++ es) τ)
            (same_word_at s old.entries es d e (omega (arith, i)) best'.signed best.signed) r.0)
    stood alive (Handles.is_syzygy n starts reduction) =
        inr (record {
          uncovered = λ k. n (newly_covers k);
          start = λ w g. elim g [ CameFrom.from_syzygy h ↦ started starts w h ];
          kept = λ w g r. elim g [ ];
        })
    stood alive (Handles.is_entry n starts reduction) =
        inr (record {
          uncovered = λ k. n (newly_covers k);
          start = λ w g. elim g [ CameFrom.from_entry h ↦ started starts w h ];
          kept = λ w g r. elim g [
            | Keeps.keeps_entry nz ↦ kept_clear s field (old.entries ++ es) alive
                (λ σ. IsLess s σ τ) reduction w nz r.0.divisor r.0.below
          ];
        })
