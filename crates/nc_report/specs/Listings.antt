-- A run whose items are listed, with what is shown behind them.
use Rattle.nc_print.specs.Printing.{ended}
use Rattle.nc_reduce.specs.Leads.{LeadsOf}
use Rattle.nc_report.specs.Reports.{cofactor_lines, entry_lines, numbered, syzygy_lines}
use Rattle.nc_report.specs.Shown.{IsShownOf, kind_of, labels_in}
use Rattle.nc_report.specs.declared.listing.Items.{Items}
use Rattle.nc_report.specs.declared.listing.Items.TheVariants.{Entries, Syzygies}
use Rattle.nc_report.specs.declared.shown.Listing.{Listing}
use Rattle.nc_snapshot.specs.declared.outcome.Listed.{Listed}
use Rattle.nc_theory.specs.States.{Entry, State, Syzygy, Trace}
use Rattle.std.specs.Prelude.{List, length, take, ℕ, ◌++◌, ◌-◌, ◌≡◌}

-- the leading words are those of the run's entries, and the labels those of its items
pub record IsListing (l : Listing) : Type 0 where
  pub leads : LeadsOf l.snapshot.now l.leads.now
  pub shown : IsShownOf l.snapshot.now l.shown.now

-- the names of the letters
abbrev pub names_in : Listing → List (List ℕ)
names_in l = l.snapshot.now.problem.alphabet.names

-- what is shown behind an item with this trace
abbrev pub lines_behind : Listing → Trace → Listed → List (List ℕ)
lines_behind l t listed =
    cofactor_lines (kind_of l.shown.now) (names_in l) t (labels_in l.shown.now listed)

-- how many items of this kind there are
abbrev pub count_of : Items → State → ℕ
count_of Entries state = length state.entries
count_of Syzygies state = length state.syzygies

-- the lines of an entry, and of a syzygy, with this number
abbrev pub lines_of_entry : Listing → ℕ → Entry → List (List ℕ)
lines_of_entry l = entry_lines (kind_of l.shown.now) (names_in l) (labels_in l.shown.now)

abbrev pub lines_of_syzygy : Listing → ℕ → Syzygy → List (List ℕ)
lines_of_syzygy l = syzygy_lines (kind_of l.shown.now) (names_in l) (labels_in l.shown.now)

-- the lines of the first n items of this kind
abbrev pub first_lines : Listing → State → Items → ℕ → List (List ℕ)
first_lines l run Entries n = numbered (lines_of_entry l) 1 (take n run.entries)
first_lines l run Syzygies n = numbered (lines_of_syzygy l) 1 (take n run.syzygies)

-- the lines of all of them
abbrev pub all_lines : Listing → State → Items → List (List ℕ)
all_lines l run Entries = numbered (lines_of_entry l) 1 run.entries
all_lines l run Syzygies = numbered (lines_of_syzygy l) 1 run.syzygies

-- where the lines of the items of this kind before the n-th stood last, those of the n-th were added
abbrev pub AddsNext : Listing → State → Items → ℕ → List ℕ → List ℕ → Type 0
AddsNext l run items n old new =
    (before : List ℕ) → old ≡ before ++ ended (first_lines l run items (n - 1))
    → new ≡ before ++ ended (first_lines l run items n)
