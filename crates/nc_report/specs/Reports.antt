-- The lines of the report on a run.
--
-- A report has a line on how the run ended, a line with counts, and then the entries and the
-- syzygies, each behind its number. The lines of an item are a parameter, so that a caller can put
-- the cofactors behind them. Entries and syzygies are numbered separately, each from 1.
-- docs/FORMATS.md shows reports to users.
use Rattle.nc_algebra.specs.Elements.{Element}
use Rattle.nc_options.specs.declared.options.Cofactors.{Cofactors}
use Rattle.nc_options.specs.declared.options.Cofactors.TheVariants.{Full, Omitted, Trace as TraceOf}
use Rattle.nc_print.specs.Printing.{ended, module_text, poly_text, sig_text}
use Rattle.nc_report.specs.Traces.{trace_text}
use Rattle.nc_snapshot.specs.declared.outcome.Listed.{Listed}
use Rattle.nc_snapshot.specs.declared.outcome.Listed.TheVariants.{Entry as EntryOf, Syzygy as SyzygyOf}
use Rattle.nc_theory.specs.Runs.{End}
use Rattle.nc_theory.specs.States.{Entry, State, Syzygy, Trace}
use Rattle.std.specs.Prelude.{List, [], codes, decimal, length, ℕ, ◌++◌, ◌+◌, ◌∷◌}

-- the next signature where the steps were used up
abbrev pub ending_line : List (List ℕ) → End → List ℕ
ending_line names End.complete = codes "end complete"
ending_line names (End.budget τ) = codes "end budget " ++ sig_text names τ

-- the handled signatures, and what became of them
abbrev pub counts_line : ℕ → State → List ℕ
counts_line handled state =
    codes "handled "
    ++ (decimal handled
    ++ (codes " entries "
    ++ (decimal (length state.entries)
    ++ (codes " syzygies "
    ++ (decimal (length state.syzygies)
    ++ (codes " covered "
    ++ (decimal state.covered
    ++ (codes " settled "
    ++ decimal state.settled))))))))

-- an entry with its number: its signature and its polynomial
abbrev pub entry_line : List (List ℕ) → ℕ → Entry → List ℕ
entry_line names k e =
    codes "entry " ++ (decimal k ++ (codes ": "
    ++ (sig_text names e.signature ++ (codes " : " ++ poly_text names e.polynomial))))

-- a syzygy with its number: its signature
abbrev pub syzygy_line : List (List ℕ) → ℕ → Syzygy → List ℕ
syzygy_line names k h = codes "syzygy " ++ (decimal k ++ (codes ": " ++ sig_text names h.signature))

-- the lines of each item, with its number, counted from k
abbrev pub numbered : {X : Type 0} → (ℕ → X → List (List ℕ)) → ℕ → List X → List (List ℕ)
numbered lines k [] = []
numbered lines k (x ∷ xs) = lines k x ++ numbered lines (k + 1) xs

-- the end, the counts, and the lines of the entries and of the syzygies, each with its number
abbrev pub run_lines : List (List ℕ) → (ℕ → Entry → List (List ℕ)) → (ℕ → Syzygy → List (List ℕ))
    → ℕ → State → End → List (List ℕ)
run_lines names of_entry of_syzygy handled state ending =
    ending_line names ending
    ∷ counts_line handled state
    ∷ (numbered of_entry 1 state.entries ++ numbered of_syzygy 1 state.syzygies)

-- each line is ended by a line feed
abbrev pub run_report : List (List ℕ) → (ℕ → Entry → List (List ℕ)) → (ℕ → Syzygy → List (List ℕ))
    → ℕ → State → End → List ℕ
run_report names of_entry of_syzygy handled state ending =
    ended (run_lines names of_entry of_syzygy handled state ending)

-- ---- with cofactors

-- what is shown behind an item: nothing, the trace, or the label
abbrev pub cofactor_lines : Cofactors → List (List ℕ) → Trace → Element → List (List ℕ)
cofactor_lines Omitted names t label = []
cofactor_lines TraceOf names t label = (codes "trace " ++ trace_text names t) ∷ []
cofactor_lines Full names t label = (codes "label " ++ module_text names label) ∷ []

-- an entry, and what is shown behind it
abbrev pub entry_lines : Cofactors → List (List ℕ) → (Listed → Element) → ℕ → Entry → List (List ℕ)
entry_lines cofactors names labels k e =
    entry_line names k e ∷ cofactor_lines cofactors names e.trace (labels (EntryOf k))

-- a syzygy, and what is shown behind it
abbrev pub syzygy_lines : Cofactors → List (List ℕ) → (Listed → Element) → ℕ → Syzygy
    → List (List ℕ)
syzygy_lines cofactors names labels k h =
    syzygy_line names k h ∷ cofactor_lines cofactors names h.trace (labels (SyzygyOf k))

-- the end line, the counts line, and the lines of each entry and of each syzygy
abbrev pub basis_report : Cofactors → List (List ℕ) → (Listed → Element) → ℕ → State → End → List ℕ
basis_report cofactors names labels handled run ending =
    run_report names (entry_lines cofactors names labels) (syzygy_lines cofactors names labels)
    handled run ending
