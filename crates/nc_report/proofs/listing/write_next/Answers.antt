use Rattle.nc_report.proofs.Showing.{next_lines}
use Rattle.nc_report.specs.Listings.{AddsNext, lines_behind, names_in}
use Rattle.nc_report.specs.Reports.{entry_line, syzygy_line}
use Rattle.nc_report.specs.declared.listing.Items.{Items}
use Rattle.nc_snapshot.specs.declared.outcome.Listed.TheVariants.{Entry as EntryOf, Syzygy as SyzygyOf}
use Rattle.nc_theory.specs.Untraced.{untraced_entry, untraced_syzygy}
use Rattle.std.proofs.Common.{refl, subst, sym}
use Rattle.std.proofs.lemmas.Result.{on_ok_weaker}
use Rattle.nc_report.proofs.listing.write_next.Goals as goal

pub returns-in_ok-write_entry-in-Entries : goal.returns-in_ok-write_entry-in-Entries
returns-in_ok-write_entry-in-Entries c =
    on_ok_weaker c.write_shown.result (λ f run a.
    subst (λ (items : Items). AddsNext c.args.listing.now run items c.args.n c.args.out.now.items
    c.write_shown.new.out.items) (sym c.in-Entries.is) (λ before so_far.
    next_lines (λ t. t.entries) untraced_entry entry_line (λ r. refl) (λ names k e. refl)
    (λ k e. lines_behind c.args.listing.now e.trace (EntryOf k)) (names_in c.args.listing.now)
    c.args.listing.now.snapshot.now c.recall_rule.ensures.snapshot run a c.args.n _
    c.requires.some c.entry_at.ensures.entry
    c.names_of-names.result.now c.names_of-names.ensures before c.args.out.now.items
    c.write_entry.new.out.items c.write_shown.new.out.items so_far
    c.in_ok-write_entry-in-Entries.ensures
    (λ e at. f run e.trace a (e, c.requires.some, at, refl)))) c.write_shown.ensures

pub returns-in_ok-write_syzygy-in-Syzygies : goal.returns-in_ok-write_syzygy-in-Syzygies
returns-in_ok-write_syzygy-in-Syzygies c =
    on_ok_weaker c.write_shown-in-Syzygies.result (λ f run a.
    subst (λ (items : Items). AddsNext c.args.listing.now run items c.args.n c.args.out.now.items
    c.write_shown-in-Syzygies.new.out.items) (sym c.in-Syzygies.is) (λ before so_far.
    next_lines (λ t. t.syzygies) untraced_syzygy syzygy_line (λ r. refl) (λ names k e. refl)
    (λ k e. lines_behind c.args.listing.now e.trace (SyzygyOf k)) (names_in c.args.listing.now)
    c.args.listing.now.snapshot.now c.recall_rule.ensures.snapshot run a c.args.n _
    c.requires.some c.syzygy_at.ensures.syzygy
    c.names_of-names.result.now c.names_of-names.ensures before c.args.out.now.items
    c.write_syzygy.new.out.items c.write_shown-in-Syzygies.new.out.items so_far
    c.in_ok-write_syzygy-in-Syzygies.ensures
    (λ e at. f run e.trace a (e, c.requires.some, at, refl)))) c.write_shown-in-Syzygies.ensures
