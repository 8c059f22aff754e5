use Rattle.nc_cofactor.specs.Traces.{IsListed}
use Rattle.nc_report.proofs.Showing.{entry_label_named, syzygy_label_named}
use Rattle.std.proofs.Common.{arith, refl, subst, ◌-◌}
use Rattle.std.proofs.lemmas.Option.{slice_get_read}
use Rattle.nc_report.proofs.shown.label_in.Goals as goal

pub returns-in-Entry-clause-named : goal.returns-in-Entry-clause-named
returns-in-Entry-clause-named c =
    entry_label_named c.args.snapshot.now c.recall_rule.ensures.snapshot c.args.entries.now
    c.args.syzygies.now c.requires.labels c.in-Entry.k c.entry.result.now
    (subst (IsListed c.args.snapshot.now.state) c.in-Entry.is c.requires.listed).0 c.entry.ensures

pub returns-in-Syzygy-clause-named : goal.returns-in-Syzygy-clause-named
returns-in-Syzygy-clause-named c =
    syzygy_label_named c.args.snapshot.now c.recall_rule.ensures.snapshot c.args.entries.now
    c.args.syzygies.now c.requires.labels c.in-Syzygy.k c.index-syzygies-k.result
    (subst (IsListed c.args.snapshot.now.state) c.in-Syzygy.is c.requires.listed).0
    (slice_get_read c.args.syzygies.now _ (c.in-Syzygy.k - 1) c.index-syzygies-k.result refl
    (omega (
      arith,
      (subst (IsListed c.args.snapshot.now.state) c.in-Syzygy.is
          c.requires.listed).0,
      (subst (IsListed c.args.snapshot.now.state) c.in-Syzygy.is
          c.requires.listed).1,
      c.requires.labels.each_syzygy,
    )) c.index-syzygies-k.is)
