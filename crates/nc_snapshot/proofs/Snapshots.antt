-- What holds of a snapshot: its prime, its entries, and what an outcome brings.
-- These are the laws of `nc_theory` on runs without traces: entries can be used (`snapshot_usable`)
-- and are canonical (`snapshot_canonical`), and what the next outcome brings is greater
-- (`snapshot_ascends`).
use Rattle.nc_algebra.proofs.Primes.{field_from_prime}
use Rattle.nc_algebra.specs.Elements.{IsGenerator, IsLess}
use Rattle.nc_algebra.specs.Monomials.{Monomial}
use Rattle.nc_algebra.specs.Primes.{IsField, IsPrime}
use Rattle.nc_algebra.specs.Problems.{IsWithin}
use Rattle.nc_field.proofs.Primes.{listed_is_prime}
use Rattle.nc_theory.proofs.Small.{usable_at}
use Rattle.nc_theory.proofs.Snapshots.{facts}
use Rattle.nc_theory.proofs.UntracedEnds.{canonical}
use Rattle.nc_theory.proofs.UntracedRuns.{same_run}
use Rattle.nc_theory.proofs.UntracedStates.{moved_next}
use Rattle.nc_theory.proofs.UntracedSteps.{goes_on}
use Rattle.nc_theory.specs.EndBases.{AreCanonical}
use Rattle.nc_theory.specs.Untraced.{IsNextOfRun}
use Rattle.nc_theory.specs.Usable.{IsUsable}
use Rattle.nc_snapshot.specs.Snapshots.{IsSnapshot, Snapshot}
use Rattle.nc_theory.specs.Runs.{BringsAmbiguity, Handles, Outcome}
use Rattle.nc_theory.specs.States.{Entry}
use Rattle.std.proofs.Common.{Some, sym, ℕ, ◌≡◌}
use Rattle.std.proofs.lemmas.Option.{get_or_from_slice_get, slice_get_within}
use Rattle.std.specs.List.{All, slice_get}

module _ (s : Snapshot) (h : IsSnapshot s) where
  pub snapshot_prime : IsPrime s.problem.problem.setting.prime
  snapshot_prime = listed_is_prime s.problem.problem.setting.prime h.problem.setting.prime

  pub snapshot_field : IsField s.problem.problem.setting.prime
  snapshot_field = field_from_prime s.problem.problem.setting.prime snapshot_prime

  pub snapshot_usable : All (IsUsable s.problem.problem.setting) s.state.entries
  snapshot_usable = (facts s.problem h.problem snapshot_prime s.handled s.state h.run).usable

  pub entry_usable : (i : ℕ) (e : Entry) → slice_get s.state.entries i ≡ Some e
      → IsUsable s.problem.problem.setting e
  entry_usable = usable_at s.problem.problem.setting s.state.entries snapshot_usable

  pub entry_within : (i : ℕ) (e : Entry) → slice_get s.state.entries i ≡ Some e
      → IsWithin s.problem.problem e.signature
  entry_within i e at =
      ((facts s.problem h.problem snapshot_prime s.handled s.state h.run).entries_within e (
        i,
        slice_get_within s.state.entries i e at,
        get_or_from_slice_get s.state.entries i e e at,
      )).0

  -- the generator of an entry's signature is one of the setting
  pub entry_generator : (i : ℕ) (e : Entry) → slice_get s.state.entries i ≡ Some e
      → IsGenerator s.problem.problem.setting e.signature.generator
  entry_generator i e at = (entry_within i e at).0

  pub snapshot_canonical : AreCanonical s.problem.problem.setting s.state
  snapshot_canonical = canonical s.problem.problem snapshot_prime s.handled s.state h.run

  -- what the outcome of the next signature brings is greater
  pub snapshot_ascends : (τ : Monomial) (o : Outcome)
      → IsNextOfRun s.problem.problem s.handled s.state τ
      → Handles s.problem.problem.setting s.state τ o → (ρ : Monomial)
      → BringsAmbiguity s.problem.problem.setting s.state τ o ρ
      → IsLess s.problem.problem.setting τ ρ
  snapshot_ascends τ o next handles =
      (goes_on s.problem.problem snapshot_prime s.handled s.state next.last
      (record { run = next.run; runs = next.runs; stands = next.stands })).ascends τ o
      (moved_next s.problem.problem next.run s.state (sym (same_run s.state next.run next.stands))
      next.last τ next.next) handles
