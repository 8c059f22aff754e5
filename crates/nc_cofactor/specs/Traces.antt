-- The traces of listed items, as the sequential run gave them.
--
-- A snapshot keeps no traces, but it stands for a run that has them. The trace of an item is made
-- again from its signature and the entries with lesser signatures. Items are entries and syzygies,
-- each counted from 1. `Claim` names neither: it stands for a claim where a report names what has
-- too many terms.
use Rattle.nc_algebra.specs.Monomials.{Monomial}
use Rattle.nc_algebra.specs.Problems.{Problem}
use Rattle.nc_snapshot.specs.declared.outcome.Listed.{Listed}
use Rattle.nc_snapshot.specs.declared.outcome.Listed.TheVariants.{Claim, Entry as EntryOf, Syzygy as SyzygyOf}
use Rattle.nc_theory.specs.Runs.{SequentialRun}
use Rattle.nc_theory.specs.States.{Entry, State, Syzygy, Trace}
use Rattle.std.specs.Prelude.{Contains, Option, Some, length, slice_get, ℕ, ◌-◌, ◌≡◌, ◌≤◌, ◌⊎◌}

-- the item is listed
abbrev pub IsListed : State → Listed → Type 0
IsListed state (EntryOf k) = (1 ≤ k) × (k ≤ length state.entries)
IsListed state (SyzygyOf k) = (1 ≤ k) × (k ≤ length state.syzygies)
IsListed state Claim = ⊥

-- the sequential run of n steps
pub record RunAt (P : Problem) (n : ℕ) : Type 0 where
  pub run : State
  pub last : Option Monomial
  pub runs : SequentialRun P n run last

-- the trace of the item in a state of the run
abbrev pub IsTraceIn : State → Listed → Trace → Type 0
IsTraceIn run (EntryOf k) t =
    (e : Entry) × (1 ≤ k) × (slice_get run.entries (k - 1) ≡ Some e) × (e.trace ≡ t)
IsTraceIn run (SyzygyOf k) t =
    (h : Syzygy) × (1 ≤ k) × (slice_get run.syzygies (k - 1) ≡ Some h) × (h.trace ≡ t)
IsTraceIn run Claim t = ⊥

-- the trace that the sequential run of n steps gave the item
pub record HasTrace (P : Problem) (n : ℕ) (listed : Listed) (t : Trace) : Type 0 where
  pub at : RunAt P n
  pub is : IsTraceIn at.run listed t

-- τ is the signature of an entry or of a syzygy
abbrev pub IsListedSignature : State → Monomial → Type 0
IsListedSignature state τ =
    ((e : Entry) × Contains state.entries e × (e.signature ≡ τ))
    ⊎ ((h : Syzygy) × Contains state.syzygies h × (h.signature ≡ τ))
