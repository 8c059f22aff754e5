use Rattle.nc_print.specs.Printing.{ended}
use Rattle.nc_report.proofs.Showing.{count_same, first_all}
use Rattle.std.proofs.Common.{List, ap, arith, ℕ, ◌++◌, ◌∙◌}
use Rattle.nc_report.proofs.listing.write_items.Goals as goal

pub returns : goal.returns
returns c = λ run a.
    c.loop-index.invariant run a ∙ ap (λ (ls : List (List ℕ)). c.args.out.now.items ++ ended ls)
    (first_all c.args.listing.now run c.args.items c.loop-index.index (omega (
      arith,
      count_same c.args.listing.now.snapshot.now c.recall_rule.ensures.snapshot run a c.args.items,
      c.count-index-end.ensures,
      c.loop-index-test.false,
    )))
