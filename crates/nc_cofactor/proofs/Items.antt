-- The items of a snapshot beside those of the run that it stands for.
-- What is rebuilt is unique and does not depend on traces (`moved_rebuilds`), so it is what the run
-- has (`entry_has_trace`, `syzygy_has_trace`). Over the first entries something is reduced at each
-- listed signature (`listed_start`).
use Rattle.nc_algebra.proofs.Degrees.{degree_within}
use Rattle.nc_algebra.proofs.Primes.{field_from_prime}
use Rattle.nc_algebra.specs.Elements.{IsGenerator, IsLess, Setting, degree}
use Rattle.nc_algebra.specs.Monomials.{Monomial, times}
use Rattle.nc_algebra.specs.Polynomials.{Polynomial}
use Rattle.nc_algebra.specs.Primes.{IsField}
use Rattle.nc_algebra.specs.Problems.{IsWithin, bound_degree}
use Rattle.nc_algebra.specs.Words.{Word}
use Rattle.nc_cofactor.proofs.Lesser.{first_of_rebuilt, lesser_than_entry}
use Rattle.nc_cofactor.proofs.Named.{AreLight, IsLight}
use Rattle.nc_cofactor.proofs.Runs.{run_at}
use Rattle.nc_cofactor.specs.Claims.{AreSubtracted}
use Rattle.nc_cofactor.specs.Rebuilding.{AreLesser, HasStart}
use Rattle.nc_cofactor.specs.Traces.{HasTrace, IsListedSignature}
use Rattle.nc_field.proofs.Primes.{listed_is_prime}
use Rattle.nc_theory.proofs.Snapshots.{facts as facts_of}
use Rattle.nc_theory.proofs.Untraced.{in_place, in_place_alike, in_place_listed, moved_reduction, moved_start}
use Rattle.nc_theory.proofs.UntracedRuns.{same_run}
use Rattle.nc_theory.proofs.UntracedStates.{same_entries, same_syzygies}
use Rattle.nc_theory.specs.UntracedLaws.{SnapshotFacts}
use Rattle.nc_theory.specs.Untraced.{SameEntries, SameSyzygies, untraced_entry, untraced_syzygy}
use Rattle.nc_theory.specs.Usable.{IsUsableSignature}
use Rattle.nc_snapshot.specs.Snapshots.{IsSnapshot, Snapshot}
use Rattle.nc_snapshot.specs.declared.outcome.Listed.TheVariants.{Entry as EntryOf, Syzygy as SyzygyOf}
use Rattle.nc_theory.proofs.Completeness.{invariant}
use Rattle.nc_theory.proofs.Rebuilding.{rebuilds_once, rebuilt}
use Rattle.nc_theory.specs.Divisors.{Divisor, number_of, signature_at}
use Rattle.nc_theory.specs.Rebuilding.{IsAtLeast, Rebuilds}
use Rattle.nc_theory.specs.Reductions.{Reduction}
use Rattle.nc_theory.specs.Runs.{Starts}
use Rattle.nc_theory.specs.States.{Entry, Step, Syzygy, Trace}
use Rattle.std.proofs.Common.{Contains, List, Some, [], ap, arith, drop, inl, inr, length, map, refl, subst, sym, take, ℕ, ◌++◌, ◌-◌, ◌<◌, ◌∙◌, ◌≡◌, ◌≤◌}
use Rattle.std.proofs.lemmas.List.{drop-map, drop_at, length-map, map-append, take-append-drop, take-map, take_at}
use Rattle.std.proofs.lemmas.Option.{get_or_from_slice_get, slice_get_read, slice_get_within}
use Rattle.std.specs.List.{AllByRecursion, slice_get}

-- ---- what is rebuilt does not depend on traces

module _ (s : Setting) (es es' : List Entry) (same : SameEntries es es') (τ : Monomial) (t : Trace)
    (f : Polynomial) (r : Rebuilds s es τ t f) where
  whole : map untraced_entry r.first ++ map untraced_entry r.rest ≡ map untraced_entry es'
  whole = sym (map-append untraced_entry r.first r.rest)
      ∙ (ap (map untraced_entry) (sym r.splits) ∙ same)

  firsts : SameEntries r.first (take (length r.first) es')
  firsts =
      sym (take_at (map untraced_entry r.first) (map untraced_entry r.rest) (length r.first)
      (length-map r.first untraced_entry))
      ∙ (ap (take (length r.first)) whole ∙ take-map untraced_entry (length r.first) es')

  rests : SameEntries r.rest (drop (length r.first) es')
  rests = sym (drop_at (map untraced_entry r.first) (map untraced_entry r.rest) (length r.first)
      (length-map r.first untraced_entry))
      ∙ (ap (drop (length r.first)) whole ∙ drop-map untraced_entry (length r.first) es')

  pub moved_rebuilds : Rebuilds s es' τ t f
  moved_rebuilds = record {
    first = take (length r.first) es';
    rest = drop (length r.first) es';
    splits = sym (take-append-drop (length r.first) es');
    lesser =
        λ e c. subst (λ (x : Entry). IsLess s x.signature τ)
        (sym (in_place_alike untraced_entry (take (length r.first) es') r.first (sym firsts) e c))
        (r.lesser (in_place untraced_entry (take (length r.first) es') r.first (sym firsts) e c)
        (in_place_listed untraced_entry (take (length r.first) es') r.first (sym firsts) e c));
    others =
        λ e c. subst (λ (x : Entry). IsAtLeast s τ x)
        (sym (in_place_alike untraced_entry (drop (length r.first) es') r.rest (sym rests) e c))
        (r.others (in_place untraced_entry (drop (length r.first) es') r.rest (sym rests) e c)
        (in_place_listed untraced_entry (drop (length r.first) es') r.rest (sym rests) e c));
    start = r.start;
    starts = moved_start s r.first (take (length r.first) es') firsts τ r.starts;
    reduces =
        moved_reduction s r.first (take (length r.first) es') firsts (λ σ. IsLess s σ τ) r.reduces;
  }

-- ---- items of a snapshot

abbrev pub listed_at : {X : Type 0} → (xs : List X) (k : ℕ) (x : X) → slice_get xs k ≡ Some x
    → Contains xs x
listed_at xs k x at = (k, slice_get_within xs k x at, get_or_from_slice_get xs k x x at)

module _ (s : Snapshot) (h : IsSnapshot s) where
  field : IsField s.problem.problem.setting.prime
  field = field_from_prime s.problem.problem.setting.prime
      (listed_is_prime s.problem.problem.setting.prime h.problem.setting.prime)

  pub facts : SnapshotFacts s.problem.problem s.handled s.state
  facts = facts_of s.problem h.problem
      (listed_is_prime s.problem.problem.setting.prime h.problem.setting.prime) s.handled s.state
      h.run

  es : SameEntries s.state.entries h.run.run.entries
  es = same_entries s.state h.run.run (same_run s.state h.run.run h.run.stands)

  hs : SameSyzygies s.state.syzygies h.run.run.syzygies
  hs = same_syzygies s.state h.run.run (same_run s.state h.run.run h.run.stands)

  -- the run's item at the same place
  abbrev entry : (e : Entry) → Contains s.state.entries e → Entry
  entry e k = in_place untraced_entry s.state.entries h.run.run.entries es e k

  abbrev entry_listed : (e : Entry) (k : Contains s.state.entries e)
      → Contains h.run.run.entries (entry e k)
  entry_listed e k = in_place_listed untraced_entry s.state.entries h.run.run.entries es e k

  entry_signed : (e : Entry) (k : Contains s.state.entries e) → (entry e k).signature ≡ e.signature
  entry_signed e k =
      sym (ap (λ (x : Entry). x.signature)
      (in_place_alike untraced_entry s.state.entries h.run.run.entries es e k))

  abbrev syzygy : (z : Syzygy) → Contains s.state.syzygies z → Syzygy
  syzygy z k = in_place untraced_syzygy s.state.syzygies h.run.run.syzygies hs z k

  abbrev syzygy_listed : (z : Syzygy) (k : Contains s.state.syzygies z)
      → Contains h.run.run.syzygies (syzygy z k)
  syzygy_listed z k = in_place_listed untraced_syzygy s.state.syzygies h.run.run.syzygies hs z k

  syzygy_signed : (z : Syzygy) (k : Contains s.state.syzygies z)
      → (syzygy z k).signature ≡ z.signature
  syzygy_signed z k =
      sym (ap (λ (x : Syzygy). x.signature)
      (in_place_alike untraced_syzygy s.state.syzygies h.run.run.syzygies hs z k))

  -- each is rebuilt over the snapshot's entries
  entry_rebuilt : (e : Entry) (k : Contains s.state.entries e)
      → Rebuilds s.problem.problem.setting h.run.run.entries e.signature (entry e k).trace
      (entry e k).polynomial
  entry_rebuilt e k =
      subst (λ σ. Rebuilds s.problem.problem.setting h.run.run.entries σ (entry e k).trace
      (entry e k).polynomial) (entry_signed e k)
      ((rebuilt s.problem.problem field h.run.runs).entries (entry e k) (entry_listed e k))

  syzygy_rebuilt : (z : Syzygy) (k : Contains s.state.syzygies z)
      → Rebuilds s.problem.problem.setting h.run.run.entries z.signature (syzygy z k).trace []
  syzygy_rebuilt z k =
      subst (λ σ. Rebuilds s.problem.problem.setting h.run.run.entries σ (syzygy z k).trace [])
      (syzygy_signed z k) ((rebuilt s.problem.problem field h.run.runs).syzygies (syzygy z k)
      (syzygy_listed z k))

  -- what is rebuilt over them is the run's trace
  is_trace : (τ : Monomial) (t t' : Trace) (f f' : Polynomial)
      → Rebuilds s.problem.problem.setting s.state.entries τ t f
      → Rebuilds s.problem.problem.setting h.run.run.entries τ t' f' → t' ≡ t
  is_trace τ t t' f f' r r' =
      (rebuilds_once s.problem.problem.setting field h.run.run.entries
      (invariant s.problem.problem field h.run.runs).sound.nonzero τ t' t f' f r'
      (moved_rebuilds s.problem.problem.setting s.state.entries h.run.run.entries es τ t f r)).0

  pub entry_has_trace : (k : ℕ) (e : Entry) → 1 ≤ k → slice_get s.state.entries (k - 1) ≡ Some e
      → (t : Trace) (f : Polynomial)
      → Rebuilds s.problem.problem.setting s.state.entries e.signature t f
      → HasTrace s.problem.problem s.handled (EntryOf k) t
  entry_has_trace k e some at t f r =
      let listed : Contains s.state.entries e = listed_at s.state.entries (k - 1) e at in
      let there : Contains h.run.run.entries (entry e listed) = entry_listed e listed in record {
        at = run_at h.run;
        is = (
          entry e listed,
          some,
          slice_get_read h.run.run.entries (length h.run.run.entries)
              (k - 1) (entry e listed) refl there.1 (sym there.2),
          is_trace e.signature t (entry e listed).trace f (entry e listed).polynomial r
              (entry_rebuilt e listed),
        );
      }

  pub syzygy_has_trace : (k : ℕ) (z : Syzygy) → 1 ≤ k → slice_get s.state.syzygies (k - 1) ≡ Some z
      → (t : Trace) (f : Polynomial)
      → Rebuilds s.problem.problem.setting s.state.entries z.signature t f
      → HasTrace s.problem.problem s.handled (SyzygyOf k) t
  syzygy_has_trace k z some at t f r =
      let listed : Contains s.state.syzygies z = listed_at s.state.syzygies (k - 1) z at in
      let there : Contains h.run.run.syzygies (syzygy z listed) = syzygy_listed z listed in record {
        at = run_at h.run;
        is = (
          syzygy z listed,
          some,
          slice_get_read h.run.run.syzygies (length h.run.run.syzygies)
              (k - 1) (syzygy z listed) refl there.1 (sym there.2),
          is_trace z.signature t (syzygy z listed).trace f [] r (syzygy_rebuilt z listed),
        );
      }

  -- ---- what was subtracted over the snapshot's entries

  -- the multiple of one of them within the bound
  divisor_light : (w : Word) (d : Divisor s.problem.problem.setting s.state.entries w)
      → IsWithin s.problem.problem (signature_at s.problem.problem.setting s.state.entries w d)
      → IsLight s.problem.problem h.run.run.entries d.left
      (number_of s.problem.problem.setting s.state.entries w d) d.right
  divisor_light w d within =
      let e : Entry = entry d.entry d.listed in
      let there : Contains h.run.run.entries e = entry_listed d.entry d.listed in
      let low : degree s.problem.problem.setting (times d.left d.entry.signature d.right)
      ≤ bound_degree s.problem.problem.setting s.problem.problem.bound =
      degree_within s.problem.problem.setting s.problem.problem.bound
      (signature_at s.problem.problem.setting s.state.entries w d) within.1 in record {
        some = omega arith;
        entry = e;
        at = subst (λ i. slice_get h.run.run.entries i ≡ Some e) (omega arith)
            (slice_get_read h.run.run.entries (length h.run.run.entries) d.listed.0 e refl there.1
            (sym there.2));
        light = subst (λ σ. degree s.problem.problem.setting (times d.left σ d.right)
            ≤ bound_degree s.problem.problem.setting s.problem.problem.bound)
            (sym (entry_signed d.entry d.listed)) low;
      }

  small : {f rest : Polynomial} {steps : List Step}
      → Reduction s.problem.problem.setting s.state.entries (IsWithin s.problem.problem) f rest
      steps → AllByRecursion (λ step. step.coefficient < s.problem.problem.setting.prime) steps
  small (Reduction.finished n) = tt
  small (Reduction.subtract w l d chosen c low q r) = (low, small r)
  small (Reduction.keep w l n c e r) = small r

  light : {f rest : Polynomial} {steps : List Step}
      → Reduction s.problem.problem.setting s.state.entries (IsWithin s.problem.problem) f rest
      steps → AllByRecursion (λ step. IsLight s.problem.problem h.run.run.entries step.left
      step.number step.right) steps
  light (Reduction.finished n) = tt
  light (Reduction.subtract w l d chosen c low q r) = (divisor_light w d chosen.allowed, light r)
  light (Reduction.keep w l n c e r) = light r

  pub subtracted_light : (steps : List Step) → AreSubtracted s.problem.problem s.state.entries steps
      → AreLight s.problem.problem h.run.run.entries steps
  subtracted_light steps (f, rest, r) = record { residues = small r; light = light r }

  -- ---- a listed signature

  pub listed_usable : (τ : Monomial) → IsListedSignature s.state τ
      → IsGenerator s.problem.problem.setting τ.generator
      × IsUsableSignature s.problem.problem.setting τ
  listed_usable τ (inl (e, k, i)) =
      subst (λ σ. IsGenerator s.problem.problem.setting σ.generator
      × IsUsableSignature s.problem.problem.setting σ) i (
        (facts.entries_within e k).0.0,
        (facts.entries_within e k).1,
      )
  listed_usable τ (inr (z, k, i)) =
      subst (λ σ. IsGenerator s.problem.problem.setting σ.generator
      × IsUsableSignature s.problem.problem.setting σ) i (
        (facts.syzygies_within z k).0.0,
        (facts.syzygies_within z k).1,
      )

  module _ (τ : Monomial) (m : ℕ) (a : AreLesser s.problem.problem.setting s.state.entries τ m)
    where
      start_from : (t : Trace) (f : Polynomial)
          → Rebuilds s.problem.problem.setting s.state.entries τ t f
          → HasStart s.problem.problem.setting s.state.entries τ m
      start_from t f r = (
        r.start,
        t.start,
        subst (λ l. Starts s.problem.problem.setting l τ r.start t.start)
            (first_of_rebuilt s.problem.problem.setting s.state.entries τ m a t f r) r.starts,
      )

      start_there : (t : Trace) (f : Polynomial) (σ : Monomial) → σ ≡ τ
          → Rebuilds s.problem.problem.setting h.run.run.entries σ t f
          → HasStart s.problem.problem.setting s.state.entries τ m
      start_there t f σ i r =
          start_from t f (moved_rebuilds s.problem.problem.setting h.run.run.entries s.state.entries
          (sym es) τ t f (subst (λ ρ. Rebuilds s.problem.problem.setting h.run.run.entries ρ t f) i
          r))

      pub listed_start : IsListedSignature s.state τ
          → HasStart s.problem.problem.setting s.state.entries τ m
      listed_start (inl (e, k, i)) =
          start_there (entry e k).trace (entry e k).polynomial e.signature i (entry_rebuilt e k)
      listed_start (inr (z, k, i)) =
          start_there (syzygy z k).trace [] z.signature i (syzygy_rebuilt z k)

  -- ---- the entries below an entry of the snapshot

  pub entry_lesser : (k : ℕ) (e : Entry) → slice_get s.state.entries (k - 1) ≡ Some e
      → AreLesser s.problem.problem.setting s.state.entries e.signature (k - 1)
  entry_lesser k e at =
      lesser_than_entry s.problem.problem.setting s.state.entries facts.entries_ascend e
      (listed_at s.state.entries (k - 1) e at)
