use Rattle.nc_cofactor.proofs.Once.{trace_once}
use Rattle.nc_options.specs.declared.options.Cofactors.TheVariants.{Full, Trace as TraceOf}
use Rattle.nc_print.specs.Printing.{ended}
use Rattle.nc_report.specs.Listings.{names_in}
use Rattle.nc_report.specs.Reports.{cofactor_lines}
use Rattle.nc_report.specs.Shown.{kind_of, label_among, labels_in}
use Rattle.nc_report.specs.declared.shown.Shown.{Shown}
use Rattle.std.proofs.Common.{[], ap, subst, sym, ◌++◌, ◌∙◌, ◌≡◌}
use Rattle.std.proofs.lemmas.Result.{on_ok_weaker}
use Rattle.nc_report.proofs.shown.write_shown.Goals as goal

pub returns-in_ok-trace-in-Traces : goal.returns-in_ok-trace-in-Traces
returns-in_ok-trace-in-Traces c =
    on_ok_weaker c.write_trace_line.result (λ f run t a is.
    subst (λ (x : Shown). c.write_trace_line.new.out.items ≡ c.args.out.now.items
    ++ ended (cofactor_lines (kind_of x) (names_in c.args.listing.now) t
    (labels_in x c.args.listed))) (sym c.in-Traces.is)
    (f [] ∙ (λ j. c.args.out.now.items ++ ended (cofactor_lines TraceOf (c.names_of.ensures j)
    (trace_once run c.args.listed c.in_ok-trace-in-Traces.trace t
    (c.in_ok-trace-in-Traces.ensures.trace run a) is j) [])))) c.write_trace_line.ensures

pub returns-in-Labelled : goal.returns-in-Labelled
returns-in-Labelled c =
    on_ok_weaker c.write_label_line.result (λ f run t a is.
    subst (λ (x : Shown). c.write_label_line.new.out.items ≡ c.args.out.now.items
    ++ ended (cofactor_lines (kind_of x) (names_in c.args.listing.now) t
    (labels_in x c.args.listed))) (sym c.in-Labelled.is)
    (f t ∙ (λ j. c.args.out.now.items
    ++ ended (cofactor_lines Full (c.names_of-in-Labelled.ensures j) t
    ((c.label_in-label.ensures.label
    ∙ ap (λ hs. label_among c.in-Labelled.entries hs c.args.listed)
    c.deref.ensures.value) j))))) c.write_label_line.ensures
