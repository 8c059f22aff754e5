-- A run keeps labels, and is closed below the least candidate that is left.
-- `Invariant` is what holds of each state. What covers a signature, or gives a multiple, stays
-- (`covered_after`, `multiple_after`), and all candidates before τ were handled, so each outcome
-- cares for τ alone: `step_covered`, `step_settled`, `step_syzygy`, `step_entry`. `low_old` and
-- `high_old` say that ambiguities with a new entry come later. At the end of the file stands what a
-- run gives by the closure theorem.
use Rattle.nc_algebra.proofs.Elements.{HasGenerator, element_times_coefficient, element_times_leads, evaluation_times, in_times}
use Rattle.nc_algebra.proofs.Leading.{lead_leads}
use Rattle.nc_algebra.proofs.Monomials.{degree-times, monomial_laws, sig_down}
use Rattle.nc_algebra.proofs.Sums.{at_other, at_self, key_dec, lead_unique, linear_sum-append, linear_sum-ext, linear_sum-map_keys, linear_sum-scale, zero_number}
use Rattle.nc_algebra.proofs.Words.{word_laws, word_total, word_trans}
use Rattle.nc_algebra.specs.Elements.{Element, IsGenerator, IsLabelled, IsLeadingWord, IsLess, IsSignatureOf, IsZeroPolynomial, Setting, element_times, evaluation, generator, generator_weight}
use Rattle.nc_algebra.specs.Monomials.{Monomial, Sig, degree_of, same_monomial, times, unit_monomial}
use Rattle.nc_algebra.specs.Polynomials.{Polynomial, coefficient, leading, polynomial_times}
use Rattle.nc_algebra.specs.Primes.{IsField, IsZero}
use Rattle.nc_algebra.specs.Problems.{IsUnder, IsWithinBound, Bound, IsWithin, IsWithinBelow, Problem}
use Rattle.nc_algebra.specs.Sums.{Term, coefficient_by, is_at, scale}
use Rattle.nc_algebra.specs.Words.{IsWordLess, Word, same_word}
use Rattle.nc_theory.proofs.Carrying.{Carries, carry}
use Rattle.nc_theory.proofs.Closure.{basis_below, syzygies_below}
use Rattle.nc_theory.proofs.Places.{at_most_multiple}
use Rattle.nc_theory.proofs.Pushed.{each_pushed}
use Rattle.nc_theory.proofs.Reductions.{From, kept_clear, kept_leads, kept_less, multiple_leads_at}
use Rattle.nc_theory.proofs.Relisted.{relisted, relisted_ambiguity}
use Rattle.nc_theory.specs.Ambiguities.{Ambiguity}
use Rattle.nc_theory.specs.Bases.{IsBasisBelow, IsClosed, IsSound, IsSyzygyBasisBelow}
use Rattle.nc_theory.specs.Divisors.{Divisor, IsBestMultiple, Multiple, RegularDivisor, multiple_at, signature_at, number_of}
use Rattle.nc_theory.specs.Reductions.{ReductionAt}
use Rattle.nc_theory.specs.Runs.{Handles, IsAfter, IsCandidate, IsNext, Outcome, SequentialRun, Starts, state_after}
use Rattle.nc_theory.specs.States.{Entry, Start, State, Step, Syzygy, Trace}
use Rattle.nc_theory.specs.Syzygies.{Covered, IsSyzygySignature}
use Rattle.std.proofs.Common.{◌≡◌, ℕ, ◌+◌, ◌%◌, ◌≤◌, ◌⊎◌, ◌≢◌, List, [], ◌∷◌, ◌++◌, refl, sym, ap, ap₂, ◌∙◌, subst, subst₂, inl, inr, arith, Contains, append-nil, Option, Some, None}
use Rattle.std.proofs.lemmas.List.Elements.{Contains-append_left, Contains-push, Contains-push_cases}
use Rattle.std.proofs.Math.Nat.{mod-eq_of_lt}

pub whole_multiple : (σ : Monomial) → times [] σ [] ≡ σ
whole_multiple σ =
    let e : σ.right ++ [] ≡ σ.right =
    append-nil σ.right in λ i. record { left = σ.left; generator = σ.generator; right = e i }

-- a multiple is the monomial itself or greater
grows : (s : Setting) (u v : Word) (σ : Monomial) → ((u ≡ []) × (v ≡ [])) ⊎ IsLess s σ (times u σ v)
grows s [] [] σ = inl (refl, refl)
grows s (x ∷ u) v σ = inr (inl (omega (arith, degree-times (generator_weight s) (x ∷ u) v σ)))
grows s [] (x ∷ v) σ = inr (inl (omega (arith, degree-times (generator_weight s) [] (x ∷ v) σ)))

nil_of : (u v : Word) → u ++ v ≡ [] → v ≡ []
nil_of [] v e = e
nil_of (x ∷ u) v e = let none : ⊥ = cc in absurd none

nil_front : (u v : Word) → u ++ v ≡ [] → u ≡ []
nil_front [] v e = refl
nil_front (x ∷ u) v e = let none : ⊥ = cc in absurd none

-- only itself divides `1 [i] 1`
unit_divisor : (u v : Word) (σ : Monomial) (i : ℕ) → times u σ v ≡ unit_monomial i
    → σ ≡ unit_monomial i
unit_divisor u v σ i e =
    let l : σ.left ≡ [] =
    nil_of u σ.left (ap (λ τ. τ.left) e) in let g : σ.generator ≡ i =
    ap (λ τ. τ.generator) e in let r : σ.right ≡ [] =
    nil_front σ.right v (ap (λ τ. τ.right) e) in
    (λ k. record { left = l k; generator = g k; right = r k })

-- σ is at most the last signature that was handled
abbrev pub IsReached : Setting → Option Monomial → Monomial → Type 0
IsReached s None σ = ⊥
IsReached s (Some τ) σ = (σ ≡ τ) ⊎ IsLess s σ τ

pub reached_or_left : (P : Problem) (last : Option Monomial) (σ : Monomial)
    → IsReached P.setting last σ ⊎ IsAfter P last σ
reached_or_left P None σ = inr tt
reached_or_left P (Some τ) σ = go ((monomial_laws (generator_weight P.setting)).total σ τ)
  where
    go : IsLess P.setting σ τ ⊎ ((σ ≡ τ) ⊎ IsLess P.setting τ σ) → ((σ ≡ τ) ⊎ IsLess P.setting σ τ)
        ⊎ IsLess P.setting τ σ
    go (inl l) = inl (inr l)
    go (inr (inl e)) = inl (inl e)
    go (inr (inr l)) = inr l

pub reached_less : (P : Problem) (last : Option Monomial) (σ τ : Monomial)
    → IsReached P.setting last σ → IsAfter P last τ → IsLess P.setting σ τ
reached_less P None σ τ h l = absurd h
reached_less P (Some ρ) σ τ (inl e) l = subst (λ κ. IsLess P.setting κ τ) (sym e) l
reached_less P (Some ρ) σ τ (inr h) l = (monomial_laws (generator_weight P.setting)).trans σ ρ τ h l

-- the monomials within the bound that are reached
abbrev pub IsWithinReached : Problem → Option Monomial → Monomial → Type 0
IsWithinReached P last σ = IsWithin P σ × IsReached P.setting last σ

pub reached_down : (P : Problem) (last : Option Monomial) (σ ρ : Monomial) → IsLess P.setting σ ρ
    → IsReached P.setting last ρ → IsReached P.setting last σ
reached_down P None σ ρ l r = r
reached_down P (Some τ) σ ρ l (inl e) = inr (subst (IsLess P.setting σ) e l)
reached_down P (Some τ) σ ρ l (inr m) =
    inr ((monomial_laws (generator_weight P.setting)).trans σ ρ τ l m)

pub record Invariant (P : Problem) (state : State) (last : Option Monomial) : Type 0 where
  pub below_last : (e : Entry) → Contains state.entries e → IsReached P.setting last e.signature
  pub within : (e : Entry) → Contains state.entries e → IsWithin P e.signature
  pub sound : IsSound P.setting state
  pub clear : (e : Entry) → Contains state.entries e → (x : Word)
      → ¬ IsZero P.setting.prime (coefficient e.polynomial x)
      → ¬ RegularDivisor P.setting state.entries e.signature x
  pub generators : (i : ℕ) → IsWithin P (unit_monomial i)
      → IsReached P.setting last (unit_monomial i)
      → ((e : Entry) × Contains state.entries e × (e.signature ≡ unit_monomial i))
      ⊎ Covered P.setting state (unit_monomial i)
  pub ambiguities : (ρ : Monomial) (w : Word) → Ambiguity P.setting state.entries ρ w → IsWithin P ρ
      → IsReached P.setting last ρ → Covered P.setting state ρ
      ⊎ ((v : Word) × IsWordLess v w × Multiple P.setting state.entries ρ v)

module _ (s : Setting) where
  pub entries_after : (state : State) (τ : Monomial) (o : Outcome) (e : Entry)
      → Contains state.entries e → Contains (state_after state τ o).entries e
  entries_after state τ Outcome.covered e k = k
  entries_after state τ (Outcome.settled j) e k = k
  entries_after state τ (Outcome.an_entry f t) e k =
      Contains-append_left state.entries (record { signature = τ; polynomial = f; trace = t } ∷ [])
      e k
  entries_after state τ (Outcome.a_syzygy t) e k = k

  syzygies_after : (state : State) (τ : Monomial) (o : Outcome) (h : Syzygy)
      → Contains state.syzygies h → Contains (state_after state τ o).syzygies h
  syzygies_after state τ Outcome.covered h k = k
  syzygies_after state τ (Outcome.settled j) h k = k
  syzygies_after state τ (Outcome.an_entry f t) h k = k
  syzygies_after state τ (Outcome.a_syzygy t) h k =
      Contains-append_left state.syzygies (record { signature = τ; trace = t } ∷ []) h k

  -- what covers a signature or gives a multiple stays
  covered_after : (state : State) (τ : Monomial) (o : Outcome) (ρ : Monomial) → Covered s state ρ
      → Covered s (state_after state τ o) ρ
  covered_after state τ o ρ k =
      record { by = k.by; is_syzygy = go k.is_syzygy; divides = k.divides }
    where
      go : IsSyzygySignature s state k.by → IsSyzygySignature s (state_after state τ o) k.by
      go (inl (h, c, e)) = inl (h, syzygies_after state τ o h c, e)
      go (inr t) =
          inr (record {
            first = t.first;
            first_listed = entries_after state τ o t.first t.first_listed;
            second = t.second;
            second_listed = entries_after state τ o t.second t.second_listed;
            m = t.m;
            greater = t.greater;
          })

  multiple_after : (state : State) (τ : Monomial) (o : Outcome) (ρ : Monomial) (w : Word)
      → Multiple s state.entries ρ w → Multiple s (state_after state τ o).entries ρ w
  multiple_after state τ o ρ w m =
      record {
        divisor = relisted m.divisor (entries_after state τ o m.divisor.entry m.divisor.listed);
        signed = m.signed;
      }

  settled_after : (state : State) (τ : Monomial) (o : Outcome) (ρ : Monomial) (w : Word)
      → Covered s state ρ ⊎ ((v : Word) × IsWordLess v w × Multiple s state.entries ρ v)
      → Covered s (state_after state τ o) ρ
      ⊎ ((v : Word) × IsWordLess v w × Multiple s (state_after state τ o).entries ρ v)
  settled_after state τ o ρ w (inl k) = inl (covered_after state τ o ρ k)
  settled_after state τ o ρ w (inr (v, l, m)) = inr (v, l, multiple_after state τ o ρ v m)

  generator_after : (state : State) (τ : Monomial) (o : Outcome) (i : ℕ)
      → ((e : Entry) × Contains state.entries e × (e.signature ≡ unit_monomial i))
      ⊎ Covered s state (unit_monomial i)
      → ((e : Entry) × Contains (state_after state τ o).entries e × (e.signature ≡ unit_monomial i))
      ⊎ Covered s (state_after state τ o) (unit_monomial i)
  generator_after state τ o i (inl (e, k, d)) = inl (e, entries_after state τ o e k, d)
  generator_after state τ o i (inr k) = inr (covered_after state τ o (unit_monomial i) k)

  unit_at : (i : ℕ) → coefficient_by same_monomial
      (record { coefficient = 1; key = unit_monomial i } ∷ []) (unit_monomial i) ≡ 1
  unit_at i =
      omega (
        arith,
        at_self same_monomial (IsLess s) (monomial_laws (generator_weight s))
            (unit_monomial i),
      )

  unit_other : (i : ℕ) (σ : Monomial) → σ ≢ unit_monomial i
      → coefficient_by same_monomial (record { coefficient = 1; key = unit_monomial i } ∷ []) σ ≡ 0
  unit_other i σ n =
      omega (
        arith,
        at_other same_monomial (IsLess s) (monomial_laws (generator_weight s)) σ
            (unit_monomial i) n,
      )

  unit_value : (i : ℕ) (y : Word)
      → coefficient (evaluation s (record { coefficient = 1; key = unit_monomial i } ∷ [])) y
      ≡ coefficient (generator s i) y + 0
  unit_value i y =
      omega (
        arith,
        linear_sum-append (is_at same_word y)
            (scale 1 (polynomial_times [] (generator s i) [])) [],
        linear_sum-scale (is_at same_word y) 1 (polynomial_times [] (generator s i) []),
        linear_sum-map_keys (is_at same_word y) (λ w. [] ++ (w ++ [])) (generator s i),
        linear_sum-ext (λ w. is_at same_word y ([] ++ (w ++ []))) (is_at same_word y)
            (generator s i) (λ w. ap (is_at same_word y) (append-nil w)),
      )

  pub unit_carries : IsField s.prime → (i : ℕ) → IsGenerator s i
      → Carries s (unit_monomial i) (generator s i) (λ y. 0)
      (record { coefficient = 1; key = unit_monomial i } ∷ [])
  unit_carries field i inside = record {
    lies = λ σ n. go σ n (key_dec same_monomial (IsLess s) (monomial_laws (generator_weight s)) σ
        (unit_monomial i));
    leads = record {
      nonzero = λ z. one_is_not (subst (IsZero s.prime) (unit_at i) z);
      above = λ σ l. subst (IsZero s.prime)
          (sym (unit_other i σ (λ e. (monomial_laws (generator_weight s)).irrefl (unit_monomial i)
          (subst (IsLess s (unit_monomial i)) e l)))) (zero_number s.prime);
    };
    one = ap (λ n. n % s.prime) (unit_at i) ∙ mod-eq_of_lt field.above_one;
    value = λ y. ap (λ n. n % s.prime) (unit_value i y);
  }
    where
      one_is_not : ¬ IsZero s.prime 1
      one_is_not z = let m : 1 % s.prime ≡ 1 = mod-eq_of_lt field.above_one in omega (arith, m, z)

      go : (σ : Monomial) → ¬ IsZero s.prime
          (coefficient_by same_monomial (record { coefficient = 1; key = unit_monomial i } ∷ []) σ)
          → (σ ≡ unit_monomial i) ⊎ (σ ≢ unit_monomial i) → HasGenerator s σ
      go σ n (inl e) = subst (HasGenerator s) (sym e) inside
      go σ n (inr d) =
          absurd (n (subst (IsZero s.prime) (sym (unit_other i σ d)) (zero_number s.prime)))

  -- a start comes with a label
  starts_carry : IsField s.prime → (state : State) → IsSound s state → (τ : Monomial)
      → HasGenerator s τ → {f : Polynomial} {start : Start} → Starts s state.entries τ f start
      → (α : Element) × Carries s τ f (λ y. 0) α
  starts_carry field state sound τ inside (Starts.at_generator i e) = (
    record { coefficient = 1; key = unit_monomial i } ∷ [],
    subst (λ ρ. Carries s ρ (generator s i) (λ y. 0)
        (record { coefficient = 1; key = unit_monomial i } ∷ [])) (sym e)
        (unit_carries field i (subst (HasGenerator s) e inside)),
  )
  starts_carry field state sound τ inside (Starts.at_multiple not_unit w d best regular) =
      go (sound.entries d.entry d.listed)
    where
      go : (β : Element) × IsLabelled s d.entry.signature d.entry.polynomial β → (α : Element)
          × Carries s τ (multiple_at s state.entries w d) (λ y. 0) α
      go (β, label) = (
        element_times d.left β d.right,
        record {
          lies = in_times s d.left β d.right label.lies;
          leads = subst (IsSignatureOf s (element_times d.left β d.right)) best.signed
              (element_times_leads s d.left β d.right d.entry.signature label.leads);
          one = subst (λ ρ. coefficient_by same_monomial (element_times d.left β d.right) ρ
              % s.prime ≡ 1) best.signed (element_times_coefficient s d.left β d.right
              d.entry.signature ∙ label.one);
          value = λ y. (evaluation_times s d.left β d.entry.polynomial d.right
              (omega (arith, field.above_one)) label.evaluates).at y
              ∙ ap (λ n. n % s.prime) (omega arith);
        },
      )

  -- what a carried polynomial says of a label
  pub labelled_from : (τ : Monomial) (f : Polynomial) (α : Element) → Carries s τ f (λ y. 0) α
      → IsLabelled s τ f α
  labelled_from τ f α k =
      record {
        lies = k.lies;
        evaluates = record
            { at = λ y. k.value y ∙ ap (λ n. n % s.prime) (omega arith) };
        leads = k.leads;
        one = k.one;
      }

abbrev pub new_entry : Monomial → Polynomial → Trace → Entry
new_entry τ f trace = record { signature = τ; polynomial = f; trace = trace }

module _ (P : Problem) (field : IsField P.setting.prime) (state : State) (last : Option Monomial)
    (inv : Invariant P state last) (τ : Monomial) (next : IsNext P state last τ) where
  -- of the candidates up to τ, all but τ are reached already
  reached_or_now : (σ : Monomial) → IsCandidate P state σ → (σ ≡ τ) ⊎ IsLess P.setting σ τ
      → IsReached P.setting last σ ⊎ (σ ≡ τ)
  reached_or_now σ c o = go (reached_or_left P last σ)
    where
      place : (σ ≡ τ) ⊎ IsLess P.setting τ σ → (σ ≡ τ) ⊎ IsLess P.setting σ τ → σ ≡ τ
      place (inl e) q = e
      place (inr l) (inl e) = e
      place (inr l) (inr m) =
          absurd ((monomial_laws (generator_weight P.setting)).irrefl σ
          ((monomial_laws (generator_weight P.setting)).trans σ τ σ m l))

      go : IsReached P.setting last σ ⊎ IsAfter P last σ → IsReached P.setting last σ ⊎ (σ ≡ τ)
      go (inl r) = inl r
      go (inr l) = inr (place (next.least σ c l) o)

  old_below : (e : Entry) → Contains state.entries e → IsLess P.setting e.signature τ
  old_below e k = reached_less P last e.signature τ (inv.below_last e k) next.left

  -- a reached generator or ambiguity of the old state is settled, where τ itself is
  generators_step : (o : Outcome)
      → ((i : ℕ) → τ ≡ unit_monomial i
      → ((e : Entry) × Contains (state_after state τ o).entries e
      × (e.signature ≡ unit_monomial i))
      ⊎ Covered P.setting (state_after state τ o) (unit_monomial i)) → (i : ℕ)
      → IsWithin P (unit_monomial i) → IsReached P.setting (Some τ) (unit_monomial i)
      → ((e : Entry) × Contains (state_after state τ o).entries e × (e.signature ≡ unit_monomial i))
      ⊎ Covered P.setting (state_after state τ o) (unit_monomial i)
  generators_step o now i within r = go (reached_or_now (unit_monomial i) (within, inl (i, refl)) r)
    where
      go : IsReached P.setting last (unit_monomial i) ⊎ (unit_monomial i ≡ τ)
          → ((e : Entry) × Contains (state_after state τ o).entries e
          × (e.signature ≡ unit_monomial i))
          ⊎ Covered P.setting (state_after state τ o) (unit_monomial i)
      go (inl q) = generator_after P.setting state τ o i (inv.generators i within q)
      go (inr e) = now i (sym e)

  ambiguities_step : (o : Outcome)
      → ((w : Word) → Ambiguity P.setting state.entries τ w
      → Covered P.setting (state_after state τ o) τ
      ⊎ ((v : Word) × IsWordLess v w × Multiple P.setting (state_after state τ o).entries τ v))
      → (ρ : Monomial) (w : Word) → Ambiguity P.setting state.entries ρ w → IsWithin P ρ
      → IsReached P.setting (Some τ) ρ → Covered P.setting (state_after state τ o) ρ
      ⊎ ((v : Word) × IsWordLess v w × Multiple P.setting (state_after state τ o).entries ρ v)
  ambiguities_step o now ρ w amb within r = go (reached_or_now ρ (within, inr (w, amb)) r)
    where
      go : IsReached P.setting last ρ ⊎ (ρ ≡ τ) → Covered P.setting (state_after state τ o) ρ
          ⊎ ((v : Word) × IsWordLess v w × Multiple P.setting (state_after state τ o).entries ρ v)
      go (inl q) = settled_after P.setting state τ o ρ w (inv.ambiguities ρ w amb within q)
      go (inr e) =
          subst (λ κ. Covered P.setting (state_after state τ o) κ
          ⊎ ((v : Word) × IsWordLess v w
          × Multiple P.setting (state_after state τ o).entries κ v)) (sym e)
          (now w (subst (λ κ. Ambiguity P.setting state.entries κ w) e amb))

  -- the high side of an ambiguity at τ has at least the best word, and its low side is a regular
  -- divisor
  best_at_most : (w : Word) (amb : Ambiguity P.setting state.entries τ w) (b : Word)
      (d : Divisor P.setting state.entries b) → IsBestMultiple P.setting state.entries τ b d
      → IsWordLess b w ⊎ (b ≡ w)
  best_at_most w amb b d best = go (best.least w amb.high amb.signed)
    where
      go : IsWordLess b w ⊎ ((b ≡ w) × (d.listed.0 + 1 ≤ amb.high.listed.0 + 1)) → IsWordLess b w
          ⊎ (b ≡ w)
      go (inl l) = inl l
      go (inr (e, _)) = inr e

  low_is_regular : (w : Word) → Ambiguity P.setting state.entries τ w
      → RegularDivisor P.setting state.entries τ w
  low_is_regular w amb =
      record {
        divisor = amb.low;
        below = subst
            (IsLess P.setting (signature_at P.setting state.entries w amb.low)) amb.signed
            amb.below;
      }

  module_τ : HasGenerator P.setting τ
  module_τ = next.candidate.0.0

  reached_after : (σ : Monomial) → IsReached P.setting last σ → IsReached P.setting (Some τ) σ
  reached_after σ r = inr (reached_less P last σ τ r next.left)

  -- where nothing is listed
  unchanged_sound : (covered settled : ℕ)
      → IsSound P.setting (record state { covered = covered; settled = settled })
  unchanged_sound covered settled =
      record {
        nonzero = inv.sound.nonzero;
        entries = inv.sound.entries;
        syzygies = inv.sound.syzygies;
      }

  step_covered : Covered P.setting state τ
      → Invariant P (state_after state τ Outcome.covered) (Some τ)
  step_covered k = record {
    below_last = λ e c. reached_after e.signature (inv.below_last e c);
    within = inv.within;
    sound = unchanged_sound (state.covered + 1) state.settled;
    clear = inv.clear;
    generators =
        generators_step Outcome.covered
        (λ i e. inr (subst (Covered P.setting (state_after state τ Outcome.covered)) e
        (covered_after P.setting state τ Outcome.covered τ k)));
    ambiguities =
        ambiguities_step Outcome.covered
        (λ w amb. inl (covered_after P.setting state τ Outcome.covered τ k));
  }

  -- where it is settled, the best multiple has a lesser word than each ambiguity
  step_settled : (j : ℕ) → ((i : ℕ) → τ ≢ unit_monomial i)
      → (b : Word) (d : Divisor P.setting state.entries b)
      → IsBestMultiple P.setting state.entries τ b d → ¬ RegularDivisor P.setting state.entries τ b
      → Invariant P (state_after state τ (Outcome.settled j)) (Some τ)
  step_settled j not_unit b d best not_regular = record {
    below_last = λ e c. reached_after e.signature (inv.below_last e c);
    within = inv.within;
    sound = unchanged_sound state.covered (state.settled + 1);
    clear = inv.clear;
    generators = generators_step (Outcome.settled j) (λ i e. absurd (not_unit i e));
    ambiguities =
        ambiguities_step (Outcome.settled j)
        (λ w amb. lesser_word w amb (best_at_most w amb b d best));
  }
    where
      lesser_word : (w : Word) → Ambiguity P.setting state.entries τ w → IsWordLess b w ⊎ (b ≡ w)
          → Covered P.setting (state_after state τ (Outcome.settled j)) τ
          ⊎ ((v : Word) × IsWordLess v w × Multiple P.setting state.entries τ v)
      lesser_word w amb (inl l) = inr (b, l, record { divisor = d; signed = best.signed })
      lesser_word w amb (inr e) =
          absurd (not_regular (subst (RegularDivisor P.setting state.entries τ) (sym e)
          (low_is_regular w amb)))

  -- a syzygy covers its own signature
  step_syzygy : {f : Polynomial} {start : Start} {steps : List Step}
      → Starts P.setting state.entries τ f start → ReductionAt P.setting state.entries τ f [] steps
      → Invariant P (state_after state τ
      (Outcome.a_syzygy (record { start = start; steps = steps }))) (Some τ)
  step_syzygy {f} {start} {steps} starts reduction = record {
    below_last = λ e c. reached_after e.signature (inv.below_last e c);
    within = inv.within;
    sound = record {
      nonzero = inv.sound.nonzero;
      entries = inv.sound.entries;
      syzygies = each_pushed (λ h. (α : Element) × IsLabelled P.setting h.signature [] α)
          state.syzygies (record { signature = τ; trace = record { start = start; steps = steps } })
          inv.sound.syzygies (carried.0, labelled_from P.setting τ [] carried.0 carried.1);
    };
    clear = inv.clear;
    generators =
        generators_step (Outcome.a_syzygy (record { start = start; steps = steps }))
        (λ i e. inr (subst (Covered P.setting
        (state_after state τ (Outcome.a_syzygy (record { start = start; steps = steps })))) e
        covers));
    ambiguities =
        ambiguities_step (Outcome.a_syzygy (record { start = start; steps = steps }))
        (λ w amb. inl covers);
  }
    where
      covers : Covered P.setting (state_after state τ
          (Outcome.a_syzygy (record { start = start; steps = steps }))) τ
      covers =
          record {
            by = τ;
            is_syzygy = inl (
              record { signature = τ; trace = record { start = start; steps = steps } },
              Contains-push state.syzygies (record {
                signature = τ;
                trace = record { start = start; steps = steps };
              }),
              refl,
            );
            divides = ([], [], whole_multiple τ);
          }

      carried : (α : Element) × Carries P.setting τ [] (λ y. 0) α
      carried =
          let t : (α : Element) × Carries P.setting τ f (λ y. 0) α =
          starts_carry P.setting field state inv.sound τ module_τ starts in
          carry P.setting field state.entries inv.sound.entries τ reduction (λ y. 0) t.0 t.1

  module _ {f kept : Polynomial} {t : Term Word} {start : Start} {steps : List Step}
      (starts : Starts P.setting state.entries τ f start)
      (reduction : ReductionAt P.setting state.entries τ f (t ∷ kept) steps) where
    abbrev trace : Trace
    trace = record { start = start; steps = steps }

    new_leads : IsLeadingWord P.setting (t ∷ kept) t.key
    new_leads =
        kept_leads P.setting field state.entries inv.sound.nonzero (λ σ. IsLess P.setting σ τ)
        reduction t kept refl

    new_nonzero : ¬ IsZeroPolynomial P.setting (t ∷ kept)
    new_nonzero z = new_leads.nonzero (z t.key)

    new_lead : leading P.setting.prime (t ∷ kept) ≡ t.key
    new_lead =
        lead_unique same_word IsWordLess word_laws P.setting.prime (t ∷ kept)
        (leading P.setting.prime (t ∷ kept)) t.key
        (lead_leads P.setting.prime (t ∷ kept) new_nonzero) new_leads

    abbrev entries' : List Entry
    entries' = state.entries ++ (new_entry τ (t ∷ kept) trace ∷ [])

    old_or_new : (e : Entry) → Contains entries' e → Contains state.entries e
        ⊎ (new_entry τ (t ∷ kept) trace ≡ e)
    old_or_new e c = Contains-push_cases state.entries (new_entry τ (t ∷ kept) trace) e c

    each_new : (Good : Entry → Type 0) → ((e : Entry) → Contains state.entries e → Good e)
        → Good (new_entry τ (t ∷ kept) trace) → (e : Entry) → Contains entries' e → Good e
    each_new Good = each_pushed Good state.entries (new_entry τ (t ∷ kept) trace)

    new_multiple : Multiple P.setting entries' τ t.key
    new_multiple =
        record {
          divisor = record {
            entry = new_entry τ (t ∷ kept) trace;
            listed = Contains-push state.entries (new_entry τ (t ∷ kept) trace);
            left = [];
            right = [];
            spells = append-nil (leading P.setting.prime (t ∷ kept))
                ∙ new_lead;
          };
          signed = whole_multiple τ;
        }

    -- the new leading word is less than that of each ambiguity at τ
    less_word : {g : Polynomial} {begin : Start} → Starts P.setting state.entries τ g begin
        → ReductionAt P.setting state.entries τ g (t ∷ kept) steps → (w : Word)
        → Ambiguity P.setting state.entries τ w → IsWordLess t.key w
    less_word (Starts.at_generator i e) red w amb =
        absurd ((monomial_laws (generator_weight P.setting)).irrefl τ
        (subst (λ σ. IsLess P.setting σ τ)
        (unit_divisor amb.high.left amb.high.right amb.high.entry.signature i (amb.signed ∙ e)
        ∙ sym e) (old_below amb.high.entry amb.high.listed)))
    less_word (Starts.at_multiple not_unit b d best regular) red w amb =
        onward (best_at_most w amb b d best)
      where
        gone : (x : Word) → From b x → IsZero P.setting.prime (coefficient (t ∷ kept) x)
        gone = kept_less P.setting field state.entries inv.sound.nonzero (λ σ. IsLess P.setting σ τ)
            red b (multiple_leads_at P.setting field state.entries inv.sound.nonzero
            (λ σ. IsLess P.setting σ τ) b d) regular.divisor regular.below

        place : IsWordLess t.key b ⊎ ((t.key ≡ b) ⊎ IsWordLess b t.key) → IsWordLess t.key b
        place (inl l) = l
        place (inr (inl e)) = absurd (new_leads.nonzero (gone t.key (inl e)))
        place (inr (inr l)) = absurd (new_leads.nonzero (gone t.key (inr l)))

        onward : IsWordLess b w ⊎ (b ≡ w) → IsWordLess t.key w
        onward (inl l) = word_trans t.key b w (place (word_total t.key b)) l
        onward (inr e) = subst (IsWordLess t.key) e (place (word_total t.key b))

    -- each ambiguity with the new entry has a signature greater than τ
    pub low_old : (ρ : Monomial) (w : Word) (amb : Ambiguity P.setting entries' ρ w)
        → IsReached P.setting (Some τ) ρ → new_entry τ (t ∷ kept) trace ≡ amb.low.entry → ⊥
    low_old ρ w amb r e = clash (at_most_multiple P.setting amb.low.left amb.low.right τ) r
      where
        low : times amb.low.left τ amb.low.right ≡ signature_at P.setting entries' w amb.low
        low = ap (λ x. times amb.low.left x.signature amb.low.right) e

        up : IsLess P.setting (times amb.low.left τ amb.low.right) ρ
        up = subst₂ (IsLess P.setting) (sym low) amb.signed amb.below

        lift : (τ ≡ times amb.low.left τ amb.low.right)
            ⊎ IsLess P.setting τ (times amb.low.left τ amb.low.right) → IsLess P.setting τ ρ
        lift (inl i) = subst (λ σ. IsLess P.setting σ ρ) (sym i) up
        lift (inr l) =
            (monomial_laws (generator_weight P.setting)).trans τ
            (times amb.low.left τ amb.low.right) ρ l up

        clash : (τ ≡ times amb.low.left τ amb.low.right)
            ⊎ IsLess P.setting τ (times amb.low.left τ amb.low.right) → (ρ ≡ τ)
            ⊎ IsLess P.setting ρ τ → ⊥
        clash o (inl i) =
            (monomial_laws (generator_weight P.setting)).irrefl τ
            (subst (IsLess P.setting τ) i (lift o))
        clash o (inr l) =
            (monomial_laws (generator_weight P.setting)).irrefl τ
            ((monomial_laws (generator_weight P.setting)).trans τ ρ τ (lift o) l)

    pub high_old : (ρ : Monomial) (w : Word) (amb : Ambiguity P.setting entries' ρ w)
        → IsReached P.setting (Some τ) ρ → Contains state.entries amb.low.entry
        → new_entry τ (t ∷ kept) trace ≡ amb.high.entry → ⊥
    high_old ρ w amb r k e = go (grows P.setting amb.high.left amb.high.right τ)
      where
        high : times amb.high.left τ amb.high.right ≡ ρ
        high = ap (λ x. times amb.high.left x.signature amb.high.right) e ∙ amb.signed

        greater : IsLess P.setting τ ρ → (ρ ≡ τ) ⊎ IsLess P.setting ρ τ → ⊥
        greater l (inl i) =
            (monomial_laws (generator_weight P.setting)).irrefl τ (subst (IsLess P.setting τ) i l)
        greater l (inr m) =
            (monomial_laws (generator_weight P.setting)).irrefl τ
            ((monomial_laws (generator_weight P.setting)).trans τ ρ τ l m)

        go : ((amb.high.left ≡ []) × (amb.high.right ≡ []))
            ⊎ IsLess P.setting τ (times amb.high.left τ amb.high.right) → ⊥
        go (inr l) = greater (subst (IsLess P.setting τ) high l) r
        go (inl (u, v)) =
            kept_clear P.setting field state.entries inv.sound.nonzero (λ σ. IsLess P.setting σ τ)
            reduction t.key new_leads.nonzero
            (record {
              entry = amb.low.entry;
              listed = k;
              left = amb.low.left;
              right = amb.low.right;
              spells = amb.low.spells ∙ word;
            })
            (subst (IsLess P.setting (signature_at P.setting entries' w amb.low))
            (amb.signed ∙ (sym high ∙ (ap₂ (λ a b. times a τ b) u v ∙ whole_multiple τ)))
            amb.below)
          where
            word : w ≡ t.key
            word = sym amb.high.spells ∙ (ap₂
                (λ a b. a ++ (leading P.setting.prime amb.high.entry.polynomial ++ b)) u v
                ∙ (append-nil (leading P.setting.prime amb.high.entry.polynomial)
                ∙ (ap (λ x. leading P.setting.prime x.polynomial) (sym e) ∙ new_lead)))

    ambiguities_new : (ρ : Monomial) (w : Word) → Ambiguity P.setting entries' ρ w → IsWithin P ρ
        → IsReached P.setting (Some τ) ρ
        → Covered P.setting (state_after state τ (Outcome.an_entry (t ∷ kept) trace)) ρ
        ⊎ ((v : Word) × IsWordLess v w × Multiple P.setting entries' ρ v)
    ambiguities_new ρ w amb within r =
        go (old_or_new amb.low.entry amb.low.listed) (old_or_new amb.high.entry amb.high.listed)
      where
        go : Contains state.entries amb.low.entry ⊎ (new_entry τ (t ∷ kept) trace ≡ amb.low.entry)
            → Contains state.entries amb.high.entry
            ⊎ (new_entry τ (t ∷ kept) trace ≡ amb.high.entry)
            → Covered P.setting (state_after state τ (Outcome.an_entry (t ∷ kept) trace)) ρ
            ⊎ ((v : Word) × IsWordLess v w × Multiple P.setting entries' ρ v)
        go (inr e) o = absurd (low_old ρ w amb r e)
        go (inl k) (inr e) = absurd (high_old ρ w amb r k e)
        go (inl k) (inl h) =
            ambiguities_step (Outcome.an_entry (t ∷ kept) trace)
            (λ v a. inr (t.key, less_word starts reduction v a, new_multiple)) ρ w
            (relisted_ambiguity amb h k) within r

    step_entry : Invariant P (state_after state τ (Outcome.an_entry (t ∷ kept) trace)) (Some τ)
    step_entry = record {
      below_last = each_new (λ e. IsReached P.setting (Some τ) e.signature)
          (λ e c. reached_after e.signature (inv.below_last e c)) (inl refl);
      within = each_new (λ e. IsWithin P e.signature) inv.within next.candidate.0;
      sound = record {
        nonzero = each_new (λ e. ¬ IsZeroPolynomial P.setting e.polynomial) inv.sound.nonzero
            new_nonzero;
        entries = each_new (λ e. (α : Element) × IsLabelled P.setting e.signature e.polynomial α)
            inv.sound.entries
            (carried.0, labelled_from P.setting τ (t ∷ kept) carried.0 carried.1);
        syzygies = inv.sound.syzygies;
      };
      clear = λ e c. clean e (old_or_new e c);
      generators =
          generators_step (Outcome.an_entry (t ∷ kept) trace)
          (λ i e. inl (
            new_entry τ (t ∷ kept) trace,
            Contains-push state.entries (new_entry τ (t ∷ kept) trace),
            e,
          ));
      ambiguities = ambiguities_new;
    }
      where
        -- a multiple of the new entry has a signature of at least τ
        not_below : (σ : Monomial) (x : Word) (v : Divisor P.setting entries' x)
            → new_entry τ (t ∷ kept) trace ≡ v.entry → (σ ≡ τ) ⊎ IsLess P.setting σ τ
            → IsLess P.setting (signature_at P.setting entries' x v) σ → ⊥
        not_below σ x v e o l = go (at_most_multiple P.setting v.left v.right τ) o
          where
            here : times v.left τ v.right ≡ signature_at P.setting entries' x v
            here = ap (λ y. times v.left y.signature v.right) e

            under : (τ ≡ times v.left τ v.right) ⊎ IsLess P.setting τ (times v.left τ v.right)
                → IsLess P.setting τ σ
            under (inl i) = subst (λ κ. IsLess P.setting κ σ) (sym (i ∙ here)) l
            under (inr m) =
                (monomial_laws (generator_weight P.setting)).trans τ (times v.left τ v.right) σ m
                (subst (λ κ. IsLess P.setting κ σ) (sym here) l)

            go : (τ ≡ times v.left τ v.right) ⊎ IsLess P.setting τ (times v.left τ v.right)
                → (σ ≡ τ) ⊎ IsLess P.setting σ τ → ⊥
            go m (inl i) =
                (monomial_laws (generator_weight P.setting)).irrefl τ
                (subst (IsLess P.setting τ) i (under m))
            go m (inr k) =
                (monomial_laws (generator_weight P.setting)).irrefl τ
                ((monomial_laws (generator_weight P.setting)).trans τ σ τ (under m) k)

        clean : (e : Entry) → Contains state.entries e ⊎ (new_entry τ (t ∷ kept) trace ≡ e)
            → (x : Word) → ¬ IsZero P.setting.prime (coefficient e.polynomial x)
            → ¬ RegularDivisor P.setting entries' e.signature x
        clean e (inl c) x nz r = go (old_or_new r.divisor.entry r.divisor.listed)
          where
            go : Contains state.entries r.divisor.entry
                ⊎ (new_entry τ (t ∷ kept) trace ≡ r.divisor.entry) → ⊥
            go (inl k) =
                inv.clear e c x nz (record {
                  divisor = relisted r.divisor k;
                  below = r.below;
                })
            go (inr i) = not_below e.signature x r.divisor i (inr (old_below e c)) r.below
        clean e (inr d) x nz r = go (old_or_new r.divisor.entry r.divisor.listed)
          where
            go : Contains state.entries r.divisor.entry
                ⊎ (new_entry τ (t ∷ kept) trace ≡ r.divisor.entry) → ⊥
            go (inl k) =
                kept_clear P.setting field state.entries inv.sound.nonzero
                (λ σ. IsLess P.setting σ τ) reduction x
                (subst (λ y. ¬ IsZero P.setting.prime (coefficient y.polynomial x)) (sym d) nz)
                (relisted r.divisor k)
                (subst (λ y. IsLess P.setting (signature_at P.setting entries' x r.divisor)
                y.signature) (sym d) r.below)
            go (inr i) =
                not_below e.signature x r.divisor i (inl (ap (λ y. y.signature) (sym d))) r.below

        carried : (α : Element) × Carries P.setting τ (t ∷ kept) (λ y. 0) α
        carried =
            let b : (α : Element) × Carries P.setting τ f (λ y. 0) α =
            starts_carry P.setting field state inv.sound τ module_τ starts in
            carry P.setting field state.entries inv.sound.entries τ reduction (λ y. 0) b.0 b.1

  step_handled : {o : Outcome} → Handles P.setting state τ o
      → Invariant P (state_after state τ o) (Some τ)
  step_handled (Handles.is_covered k) = step_covered k
  step_handled (Handles.is_settled n not_unit b d best not_regular) =
      step_settled (number_of P.setting state.entries b d) not_unit b d best not_regular
  step_handled (Handles.is_syzygy n starts reduction) = step_syzygy starts reduction
  step_handled (Handles.is_entry n starts reduction) = step_entry starts reduction

-- the invariant holds all the way
pub invariant : (P : Problem) → IsField P.setting.prime
    → {n : ℕ} {state : State} {last : Option Monomial} → SequentialRun P n state last
    → Invariant P state last
invariant P field SequentialRun.opened = record {
  below_last = λ e c. absurd (nobody e c);
  within = λ e c. absurd (nobody e c);
  sound = record {
    nonzero = λ e c. absurd (nobody e c);
    entries = λ e c. absurd (nobody e c);
    syzygies = λ h c. absurd (nothing h c);
  };
  clear = λ e c. absurd (nobody e c);
  generators = λ i within r. absurd r;
  ambiguities = λ ρ w amb within r. absurd r;
}
  where
    nobody : (e : Entry) → Contains [] e → ⊥
    nobody e c = omega (arith, c.1)

    nothing : (h : Syzygy) → Contains [] h → ⊥
    nothing h c = omega (arith, c.1)
invariant P field (SequentialRun.handled {state = state} {last = last} before τ next o handles) =
    step_handled P field state last (invariant P field before) τ next handles

-- ---- what a run gives

pub bound_down : (s : Setting) (b : Bound) (σ τ : Monomial) → IsWithinBound s b τ → IsLess s σ τ
    → HasGenerator s σ → IsWithinBound s b σ
bound_down s (Bound.to_degree d) σ τ w l m = (m, degrees l)
  where
    degrees : IsLess s σ τ → degree_of (generator_weight s) σ ≤ d
    degrees (inl h) = omega (arith, w.1)
    degrees (inr (e, h)) = omega (arith, e, w.1)
bound_down s (Bound.under β) σ τ w l m = (m, (monomial_laws (generator_weight s)).trans σ τ β l w.1)

pub under_down : (s : Setting) (β : Sig) (σ τ : Monomial) → IsUnder s β τ → IsLess s σ τ
    → HasGenerator s σ → IsUnder s β σ
under_down s β σ τ w l m = (m, sig_down (generator_weight s) β σ τ l w.1)

pub within_down : (P : Problem) (σ τ : Monomial) → IsWithin P τ → IsLess P.setting σ τ
    → HasGenerator P.setting σ → IsWithin P σ
within_down P = bound_down P.setting P.bound

module _ (P : Problem) (field : IsField P.setting.prime) {n : ℕ} {state : State}
    {last : Option Monomial} (run : SequentialRun P n state last) where
  inv' : Invariant P state last
  inv' = invariant P field run

  -- a set of candidates that are all reached is closed
  closed_where : (bound : Monomial → Type 0) → ((σ : Monomial) → bound σ → IsWithin P σ)
      → ((σ : Monomial) → IsCandidate P state σ → bound σ → IsReached P.setting last σ)
      → IsClosed P.setting state bound
  closed_where bound within reached = record {
    generators =
        λ i b. inv'.generators i (within (unit_monomial i) b)
        (reached (unit_monomial i) (within (unit_monomial i) b, inl (i, refl)) b);
    ambiguities =
        λ ρ w amb b. inv'.ambiguities ρ w amb (within ρ b) (reached ρ (within ρ b, inr (w, amb)) b);
  }

  -- what was handled is closed at each moment
  pub closed_reached : IsClosed P.setting state (IsWithinReached P last)
  closed_reached = closed_where (IsWithinReached P last) (λ σ b. b.0) (λ σ c b. b.1)

  pub enough_reached : IsBasisBelow P.setting state (IsWithinReached P last)
      × IsSyzygyBasisBelow P.setting state (IsWithinReached P last)
  enough_reached = (
    basis_below P.setting field state inv'.sound (IsWithinReached P last) down (λ σ b. b.0.0)
        closed_reached,
    syzygies_below P.setting field state inv'.sound (IsWithinReached P last)
        down (λ σ b. b.0.0) closed_reached,
  )
    where
      down : (σ ρ : Monomial) → IsWithinReached P last ρ → IsLess P.setting σ ρ
          → HasGenerator P.setting σ → IsWithinReached P last σ
      down σ ρ b l m = (within_down P σ ρ b.0 l m, reached_down P last σ ρ l b.1)

  pub closed_below_next : (τ : Monomial) → IsNext P state last τ
      → IsClosed P.setting state (IsWithinBelow P τ)
  closed_below_next τ next =
      closed_where (IsWithinBelow P τ) (λ σ b. b.0) (λ σ c b. go σ c b (reached_or_left P last σ))
    where
      go : (σ : Monomial) → IsCandidate P state σ → IsWithinBelow P τ σ → IsReached P.setting last σ
          ⊎ IsAfter P last σ → IsReached P.setting last σ
      go σ c b (inl r) = r
      go σ c b (inr l) = absurd (clash (next.least σ c l))
        where
          clash : (σ ≡ τ) ⊎ IsLess P.setting τ σ → ⊥
          clash (inl e) =
              (monomial_laws (generator_weight P.setting)).irrefl τ
              (subst (λ κ. IsLess P.setting κ τ) e b.1)
          clash (inr m) =
              (monomial_laws (generator_weight P.setting)).irrefl τ
              ((monomial_laws (generator_weight P.setting)).trans τ σ τ m b.1)

  pub closed_at_end : ((τ : Monomial) → IsCandidate P state τ → ¬ IsAfter P last τ)
      → IsClosed P.setting state (IsWithin P)
  closed_at_end none =
      closed_where (IsWithin P) (λ σ b. b) (λ σ c b. go σ c (reached_or_left P last σ))
    where
      go : (σ : Monomial) → IsCandidate P state σ → IsReached P.setting last σ ⊎ IsAfter P last σ
          → IsReached P.setting last σ
      go σ c (inl r) = r
      go σ c (inr l) = absurd (none σ c l)

  pub enough_at_end : ((τ : Monomial) → IsCandidate P state τ → ¬ IsAfter P last τ)
      → IsBasisBelow P.setting state (IsWithin P) × IsSyzygyBasisBelow P.setting state (IsWithin P)
  enough_at_end none = (
    basis_below P.setting field state inv'.sound (IsWithin P)
        (λ σ τ b l m. within_down P σ τ b l m) (λ σ b. b.0) (closed_at_end none),
    syzygies_below P.setting field state inv'.sound (IsWithin P)
        (λ σ τ b l m. within_down P σ τ b l m) (λ σ b. b.0) (closed_at_end none),
  )

  pub enough_below_next : (τ : Monomial) → IsNext P state last τ
      → IsBasisBelow P.setting state (IsWithinBelow P τ)
      × IsSyzygyBasisBelow P.setting state (IsWithinBelow P τ)
  enough_below_next τ next = (
    basis_below P.setting field state inv'.sound (IsWithinBelow P τ) down (λ σ b. b.0.0)
        (closed_below_next τ next),
    syzygies_below P.setting field state inv'.sound
        (IsWithinBelow P τ) down (λ σ b. b.0.0) (closed_below_next τ next),
  )
    where
      down : (σ ρ : Monomial) → IsWithinBelow P τ ρ → IsLess P.setting σ ρ
          → HasGenerator P.setting σ → IsWithinBelow P τ σ
      down σ ρ b l m = (
        within_down P σ ρ b.0 l m,
        (monomial_laws (generator_weight P.setting)).trans σ ρ τ l
            b.1,
      )
