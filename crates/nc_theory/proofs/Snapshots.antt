-- What holds of each state of a program's run, without traces.
use Rattle.nc_algebra.proofs.Primes.{field_from_prime}
use Rattle.nc_algebra.specs.Elements.{IsLess, Setting, WeighsAtMost, WordsAre, degree}
use Rattle.nc_algebra.specs.Finite.{AreLetters}
use Rattle.nc_algebra.specs.Polynomials.{IsNormal}
use Rattle.nc_algebra.specs.Primes.{IsField, IsPrime}
use Rattle.nc_algebra.specs.Problems.{IsProblem, IsWithin, NamedProblem, bound_degree, setting_of}
use Rattle.nc_theory.proofs.Reached.{entry_signed, run_usable, syzygy_signed}
use Rattle.nc_theory.proofs.Untraced.{ascend_alike, each_alike, same_length}
use Rattle.nc_theory.proofs.UntracedRuns.{same_run}
use Rattle.nc_theory.proofs.UntracedStates.{same_entries, same_syzygies}
use Rattle.nc_theory.specs.UntracedLaws.{SnapshotFacts}
use Rattle.nc_theory.specs.Untraced.{IsRunOf, SameEntries, SameSyzygies, untraced_entry, untraced_syzygy}
use Rattle.nc_theory.specs.Usable.{IsUsable, IsUsableSignature}
use Rattle.nc_theory.proofs.Completeness.{invariant}
use Rattle.nc_theory.proofs.Counting.{counts}
use Rattle.nc_theory.proofs.Rebuilding.{rebuilt}
use Rattle.nc_theory.specs.States.{Entry, State, Syzygy}
use Rattle.std.proofs.Common.{Contains, [], ap, arith, get_or, length, refl, subst, ℕ, ◌+◌, ◌<◌, ◌≡◌, ◌≢◌, ◌≤◌}
use Rattle.std.proofs.lemmas.List.{get_or_default}
use Rattle.std.specs.List.{All}

usable_like : (s : Setting) (e e' : Entry) → untraced_entry e ≡ untraced_entry e' → IsUsable s e
    → IsUsable s e'
usable_like s e e' alike u = record {
  normal = subst (λ (x : Entry). IsNormal s.prime x.polynomial) alike u.normal;
  some = subst (λ (x : Entry). x.polynomial ≢ []) alike u.some;
  letters = subst (λ (x : Entry). WordsAre s (AreLetters 64 100) x.polynomial) alike u.letters;
  light = subst (λ (x : Entry). WeighsAtMost s (degree s x.signature) x.polynomial) alike u.light;
}

module _ (P : NamedProblem) (is : IsProblem P) (prime : IsPrime P.problem.setting.prime) (n : ℕ)
    (state : State) (r : IsRunOf P.problem n state) where
  field : IsField P.problem.setting.prime
  field = field_from_prime P.problem.setting.prime prime

  limit : bound_degree P.problem.setting P.problem.bound ≤ 100000
  limit = omega (arith, is.limited)

  es : SameEntries state.entries r.run.entries
  es = same_entries state r.run (same_run state r.run r.stands)

  hs : SameSyzygies state.syzygies r.run.syzygies
  hs = same_syzygies state r.run (same_run state r.run r.stands)

  all_usable : All (IsUsable P.problem.setting) state.entries
  all_usable k e l =
      each_alike untraced_entry state.entries r.run.entries es Alike each x listed x refl
    where
      -- usable is each entry with its signature and its polynomial
      Alike : Entry → Type 0
      Alike d = (x : Entry) → d ≡ untraced_entry x → IsUsable P.problem.setting x

      each : (d : Entry) → Contains r.run.entries d → Alike (untraced_entry d)
      each d c x alike =
          usable_like P.problem.setting d x alike
          (subst (IsUsable P.problem.setting) c.2
          (run_usable (setting_of P) is.setting field P.problem refl limit r.runs c.0 d c.1))

      x : Entry
      x = get_or state.entries k e

      listed : Contains state.entries (get_or state.entries k e)
      listed = (k, l, get_or_default state.entries k (get_or state.entries k e) e l)

  entry_within : (e : Entry) → Contains state.entries e → IsWithin P.problem e.signature
      × IsUsableSignature P.problem.setting e.signature
  entry_within =
      each_alike untraced_entry state.entries r.run.entries es
      (λ (x : Entry). IsWithin P.problem x.signature
      × IsUsableSignature P.problem.setting x.signature)
      (λ d c. (
        (invariant P.problem field r.runs).within d c,
        entry_signed (setting_of P) is.setting field P.problem refl limit r.runs d c,
      ))

  syzygy_within : (h : Syzygy) → Contains state.syzygies h → IsWithin P.problem h.signature
      × IsUsableSignature P.problem.setting h.signature
  syzygy_within =
      each_alike untraced_syzygy state.syzygies r.run.syzygies hs
      (λ (x : Syzygy). IsWithin P.problem x.signature
      × IsUsableSignature P.problem.setting x.signature)
      (syzygy_signed (setting_of P) is.setting field P.problem refl limit r.runs)

  entries_ascend : (e e' : Entry) (k : Contains state.entries e) (k' : Contains state.entries e')
      → k.0 < k'.0 → IsLess P.problem.setting e.signature e'.signature
  entries_ascend =
      ascend_alike untraced_entry state.entries r.run.entries es
      (λ (x : Entry) (y : Entry). IsLess P.problem.setting x.signature y.signature)
      (rebuilt P.problem field r.runs).entries_ascend

  syzygies_ascend : (h h' : Syzygy) (k : Contains state.syzygies h)
      (k' : Contains state.syzygies h') → k.0 < k'.0
      → IsLess P.problem.setting h.signature h'.signature
  syzygies_ascend =
      ascend_alike untraced_syzygy state.syzygies r.run.syzygies hs
      (λ (x : Syzygy) (y : Syzygy). IsLess P.problem.setting x.signature y.signature)
      (rebuilt P.problem field r.runs).syzygies_ascend

  counted : n ≡ state.covered + state.settled + length state.entries + length state.syzygies
  counted =
      omega (
        arith,
        counts P.problem r.runs,
        ap (λ (t : State). t.covered) r.stands,
        ap (λ (t : State). t.settled) r.stands,
        same_length untraced_entry state.entries r.run.entries es,
        same_length untraced_syzygy state.syzygies r.run.syzygies hs,
      )

  pub facts : SnapshotFacts P.problem n state
  facts = record {
    usable = all_usable;
    entries_within = entry_within;
    syzygies_within = syzygy_within;
    entries_ascend = entries_ascend;
    syzygies_ascend = syzygies_ascend;
    counted = counted;
  }
