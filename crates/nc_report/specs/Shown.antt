-- What code keeps of what is shown behind the items of a run: nothing, traces, or labels.
--
-- Labels are kept in two lists, those of the entries and those of the syzygies, in the order of the
-- items. Traces are not kept, but made again one by one while the report is written.
use Rattle.nc_algebra.specs.Elements.{Element}
use Rattle.nc_algebra.specs.Monomials.{Monomial, Sig}
use Rattle.nc_algebra.specs.Sums.{Term}
use Rattle.nc_cofactor.specs.Firsts.{IsFirstPast}
use Rattle.nc_cofactor.specs.Labels.{AreLabels, AreSyzygyLabels}
use Rattle.nc_cofactor.specs.Terms.{LabelTerms}
use Rattle.nc_cofactor.specs.declared.fault.CofactorFault.{CofactorFault}
use Rattle.nc_cofactor.specs.declared.fault.CofactorFault.TheVariants.{OutOfMemory, TooMany}
use Rattle.nc_module.specs.Modules.{element_of}
use Rattle.nc_options.specs.declared.options.Cofactors.{Cofactors}
use Rattle.nc_options.specs.declared.options.Cofactors.TheVariants.{Full, Omitted, Trace as TraceOf}
use Rattle.nc_report.specs.Traces.{StartIsNamed}
use Rattle.nc_snapshot.specs.Snapshots.{Snapshot}
use Rattle.nc_snapshot.specs.declared.outcome.Listed.{Listed}
use Rattle.nc_snapshot.specs.declared.outcome.Listed.TheVariants.{Claim, Entry as EntryOf, Syzygy as SyzygyOf}
use Rattle.nc_theory.specs.Runs.{SequentialRun}
use Rattle.nc_theory.specs.States.{State, Trace}
use Rattle.nc_report.specs.declared.shown.Shown.{Shown}
use Rattle.nc_report.specs.declared.shown.Shown.TheVariants.{Labelled, Nothing, Traces}
use Rattle.std.specs.Prelude.{All, List, Option, [], get_or, length, ℕ, ◌-◌, ◌<◌, ◌≡◌}

-- which cofactors these are
abbrev pub kind_of : Shown → Cofactors
kind_of Nothing = Omitted
kind_of Traces = TraceOf
kind_of (Labelled entries syzygies) = Full

-- the label of an item among those of the entries and those of the syzygies
abbrev pub label_among : List (List (Term Sig)) → List (List (Term Sig)) → Listed → Element
label_among entries syzygies (EntryOf k) = element_of (get_or entries (k - 1) [])
label_among entries syzygies (SyzygyOf k) = element_of (get_or syzygies (k - 1) [])
label_among entries syzygies Claim = []

-- the labels by their items
abbrev pub labels_in : Shown → Listed → Element
labels_in Nothing listed = []
labels_in Traces listed = []
labels_in (Labelled entries syzygies) listed = label_among entries syzygies.items listed

-- the run that the snapshot stands for, with its traces
abbrev pub IsRunAt : Snapshot → State → Type 0
IsRunAt s run = (last : Option Monomial) × SequentialRun s.problem.problem s.handled run last

-- these are the labels of all entries of the snapshot, and of all its syzygies
pub record AreAllLabels (s : Snapshot) (entries syzygies : List (List (Term Sig))) : Type 0 where
  pub entries_are : AreLabels s.problem.problem s.handled entries
  pub each_entry : length entries ≡ length s.state.entries
  pub syzygies_are : AreSyzygyLabels s.problem.problem s.handled syzygies
  pub each_syzygy : length syzygies ≡ length s.state.syzygies

-- labels that are shown are those of the snapshot
abbrev pub IsShownOf : Snapshot → Shown → Type 0
IsShownOf s Nothing = Unit {0}
IsShownOf s Traces = Unit {0}
IsShownOf s (Labelled entries syzygies) = AreAllLabels s entries syzygies.items

-- each letter of the trace is one of the first n
pub record IsTraceNamed (n : ℕ) (t : Trace) : Type 0 where
  pub start : StartIsNamed n t.start
  pub left : All (λ step. All (λ x. x.index < n) step.left) t.steps
  pub right : All (λ step. All (λ x. x.index < n) step.right) t.steps

-- why nothing is shown: the label of this item has too many terms
abbrev pub FailsToShow : Snapshot → ℕ → CofactorFault → Type 0
FailsToShow s limit OutOfMemory = Unit {0}
FailsToShow s limit (TooMany named terms) =
    (run : State) → IsRunAt s run
    → IsFirstPast (LabelTerms s.problem.problem.setting.prime run) limit named terms
