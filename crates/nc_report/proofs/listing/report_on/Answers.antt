use Rattle.nc_report.specs.Reports.{counts_line, ending_line, numbered}
use Rattle.nc_snapshot.specs.Snapshots.{Snapshot}
use Rattle.nc_theory.specs.States.{State}
use Rattle.nc_report.proofs.Showing.{counts_same, in_a_row}
use Rattle.nc_report.specs.Reports.{basis_report, entry_lines, syzygy_lines}
use Rattle.nc_report.specs.Shown.{IsRunAt, kind_of, labels_in}
use Rattle.std.proofs.Common.{List, [], ap, subst, sym, ℕ, ◌++◌, ◌∙◌, ◌∷◌, ◌≡◌}
use Rattle.nc_report.proofs.listing.report_on.Goals as goal

pub returns : goal.returns
returns c =
    subst (λ (s : Snapshot). (run : State) → IsRunAt s run
    → c.write_items-2.new.out.items ≡ basis_report (kind_of c.args.shown.now)
    s.problem.alphabet.names (labels_in c.args.shown.now) s.handled run
    c.args.finished.now.ending) c.snapshot-snapshot.ensures.snapshot (λ run a.
    in_a_row [] c.write_end.new.out.items c.write_counts.new.out.items c.write_items.new.out.items
    c.write_items-2.new.out.items
    (ending_line c.snapshot-snapshot.result.now.problem.alphabet.names
    c.args.finished.now.ending) (counts_line c.snapshot-snapshot.result.now.handled run)
    (numbered (entry_lines (kind_of c.args.shown.now)
    c.snapshot-snapshot.result.now.problem.alphabet.names (labels_in c.args.shown.now)) 1
    run.entries) (numbered (syzygy_lines (kind_of c.args.shown.now)
    c.snapshot-snapshot.result.now.problem.alphabet.names (labels_in c.args.shown.now)) 1
    run.syzygies)
    (subst (λ (s : Snapshot). c.write_end.new.out.items ≡ ending_line s.problem.alphabet.names
    c.args.finished.now.ending ++ 10 ∷ []) (sym c.snapshot-snapshot.ensures.snapshot)
    (c.in_ok-write_end.ensures ∙ ap (λ (l : List ℕ). l
    ++ (ending_line c.args.finished.now.snapshot.problem.alphabet.names
    c.args.finished.now.ending ++ 10 ∷ [])) c.new-out.ensures.items))
    (c.in_ok-write_counts.ensures ∙ ap (λ (l : List ℕ). c.write_end.new.out.items ++ (l ++ 10 ∷ []))
    (counts_same c.snapshot-snapshot.result.now c.recall_rule.ensures.snapshot run a))
    (c.in_ok-write_items.ensures run a) (c.in_ok-write_items-2.ensures run a))
