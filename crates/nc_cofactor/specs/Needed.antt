-- The entries that marks need, as a sweep finds them, and their labels.
--
-- A trace names only entries with lesser numbers. So one sweep from the last entry to the first
-- finds all that are needed: where an entry is marked, its trace is made again, and what it names
-- is marked as well. The traces lie on a stack, that of entry 1 on top. A second sweep, from the
-- first entry to the last, makes the labels.
use Rattle.nc_algebra.specs.Monomials.{Sig}
use Rattle.nc_algebra.specs.Problems.{Problem}
use Rattle.nc_algebra.specs.Sums.{Term}
use Rattle.nc_cofactor.specs.Labels.{HasLabel, IsLabelOf}
use Rattle.nc_cofactor.specs.Terms.{EntryTerms, IsFirstPastAt, IsNeeded, Names}
use Rattle.nc_cofactor.specs.Traces.{HasTrace, IsTraceIn, RunAt}
use Rattle.nc_cofactor.specs.declared.fault.CofactorFault.{CofactorFault}
use Rattle.nc_cofactor.specs.declared.fault.CofactorFault.TheVariants.{OutOfMemory, TooMany}
use Rattle.nc_snapshot.specs.declared.outcome.Listed.{Listed}
use Rattle.nc_snapshot.specs.declared.outcome.Listed.TheVariants.{Claim, Entry as EntryOf, Syzygy as SyzygyOf}
use Rattle.nc_theory.specs.States.{State, Step, Trace}
use Rattle.std.specs.List.Sorted.{IsStrictlyIncreasing}
use Rattle.std.specs.Prelude.{Bool, Contains, List, None, Option, Some, length, map, slice_get, true, ℕ, ◌-◌, ◌↔◌, ◌≡◌, ◌≤◌, ◌⊎◌}

-- ---- marks

-- entry j is marked; entries are counted from 1
abbrev pub IsMarked : List Bool → ℕ → Type 0
IsMarked marks j = slice_get marks (j - 1) ≡ Some true

-- one of the steps names entry j
abbrev pub StepsName : List Step → ℕ → Type 0
StepsName steps j = (step : Step) × Contains steps step × (step.number ≡ j)

-- marks, and those entries that are named
abbrev pub MarksMore : List Bool → List Bool → (ℕ → Type 0) → Type 0
MarksMore old new named = (j : ℕ) → 1 ≤ j → IsMarked new j ↔ (IsMarked old j ⊎ named j)

-- the marks name entry j
abbrev pub MarksName : List Bool → ℕ → Type 0
MarksName marks j = (1 ≤ j) × IsMarked marks j

-- ---- their traces

-- the trace of entry k where it is marked, and what it names is marked then; nothing where it is
-- not marked
abbrev pub IsSlot : Problem → ℕ → List Bool → List Bool → ℕ → Option Trace → Type 0
IsSlot P n old new k None = ¬ IsMarked old k × (new ≡ old)
IsSlot P n old new k (Some t) =
    IsMarked old k × HasTrace P n (EntryOf k) t × MarksMore old new (Names t)

-- the trace of entry k where it is needed, and nothing where it is not
abbrev pub IsFound : State → List Bool → ℕ → Option Trace → Type 0
IsFound run marks k None = ¬ IsNeeded run.entries (MarksName marks) k
IsFound run marks k (Some t) =
    IsTraceIn run (EntryOf k) t × IsNeeded run.entries (MarksName marks) k

-- of each entry that is needed the trace is there, that of entry 1 last
pub record AreFound (P : Problem) (n : ℕ) (marks : List Bool) (stack : List (Option Trace)) : Type 0
  where
    pub at : RunAt P n
    pub size : length marks ≡ length at.run.entries
    pub height : length stack ≡ length at.run.entries
    pub slots : (k : ℕ) (o : Option Trace) → 1 ≤ k → k ≤ length at.run.entries
        → slice_get stack (length at.run.entries - k) ≡ Some o → IsFound at.run marks k o

-- the traces that are there, each beside its number, from the last one of the stack to the first
pub record AreNumbered (stack : List (Option Trace)) (numbered : List (ℕ × Trace)) : Type 0 where
  pub ascending : IsStrictlyIncreasing (map (λ x. x.0) numbered)
  pub sound : (k : ℕ) (t : Trace) → Contains numbered (k, t) → (1 ≤ k) × (k ≤ length stack)
      × (slice_get stack (length stack - k) ≡ Some (Some t))
  pub complete : (k : ℕ) (t : Trace) → 1 ≤ k → k ≤ length stack
      → slice_get stack (length stack - k) ≡ Some (Some t) → Contains numbered (k, t)

-- ---- their labels

-- the label of entry k, with few terms, where its trace was there; anything where it was not
abbrev pub IsNewLabel : Problem → ℕ → ℕ → ℕ → Option Trace → List (Term Sig) → Type 0
IsNewLabel P n limit k None m = Unit {0}
IsNewLabel P n limit k (Some t) m = HasLabel P n (EntryOf k) m × (length m ≤ limit)

-- the label of entry k stands in its place, with at most limit terms
pub record IsFilledAt (P : Problem) (run : State) (labels : List (List (Term Sig))) (limit : ℕ)
    (k : ℕ) : Type 0 where
  pub label : List (Term Sig)
  pub at : slice_get labels (k - 1) ≡ Some label
  pub is : IsLabelOf P.setting run (EntryOf k) label
  pub few : length label ≤ limit

-- the labels of the entries that are needed stand in their places
pub record AreFilled (P : Problem) (n : ℕ) (marks : List Bool) (limit : ℕ)
    (labels : List (List (Term Sig))) : Type 0 where
  pub at : RunAt P n
  pub size : length marks ≡ length at.run.entries
  pub places : (k : ℕ) → IsNeeded at.run.entries (MarksName marks) k
      → IsFilledAt P at.run labels limit k

-- the label of an entry that the marks need has n terms
abbrev pub MarkedTerms : List Bool → ℕ → State → Listed → ℕ → Type 0
MarkedTerms marks p run (EntryOf j) n =
    IsNeeded run.entries (MarksName marks) j × EntryTerms p run j n
MarkedTerms marks p run (SyzygyOf k) n = ⊥
MarkedTerms marks p run Claim n = ⊥

-- why not all of them were given labels; want of memory says nothing
abbrev pub FailsToFill : Problem → ℕ → List Bool → ℕ → CofactorFault → Type 0
FailsToFill P n marks limit OutOfMemory = Unit {0}
FailsToFill P n marks limit (TooMany named terms) =
    IsFirstPastAt P n (MarkedTerms marks) limit named terms
