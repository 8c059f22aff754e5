use Rattle.nc_print.specs.Printing.{ended}
use Rattle.nc_report.specs.Listings.{first_lines}
use Rattle.nc_report.specs.Shown.{IsRunAt}
use Rattle.nc_theory.specs.States.{State}
use Rattle.std.proofs.Common.{◌++◌, ◌≡◌}
use Rattle.nc_report.proofs.listing.write_items.Given as goal

abbrev pub invariant-loop-index : goal.invariant-loop-index
invariant-loop-index l =
    (run : State) → IsRunAt l.listing.snapshot.now run
    → l.out.items ≡ l.initial.out.items ++ ended (first_lines l.listing run l.items l.index)
