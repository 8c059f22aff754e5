use Rattle.nc_algebra.specs.Polynomials.{leading}
use Rattle.nc_desk.proofs.Multiples.{lead_few, lead_is}
use Rattle.nc_snapshot.proofs.Snapshots.{snapshot_usable}
use Rattle.nc_reduce.specs.Starts.{polynomial_of}
use Rattle.nc_snapshot.specs.Snapshots.{entry_of}
use Rattle.std.proofs.Common.{drop, sym, take, ◌∙◌, ◌≡◌}
use Rattle.nc_desk.proofs.multiple.leading_word.Goals as goal

pub join-requires : goal.join-requires
join-requires c =
    rw (c.around.ensures.left, c.around.ensures.right, c.letters.ensures.letters)
    (lead_few c.args.snapshot.now.problem.problem.setting c.args.snapshot.now.state.entries
    (snapshot_usable c.args.snapshot.now c.recall_rule.ensures.snapshot)
    (take c.args.best.now.left c.args.sig.now.left)
    (drop c.args.best.now.right c.args.sig.now.right) c.args.best.now.number
    c.requires.readable (entry_of c.entry.result.now) c.entry.ensures.entry
    c.lead-lead.result.now c.lead-lead.ensures)

pub returns : goal.returns
returns c =
    let key : c.letters.result.now ≡ leading c.args.snapshot.now.problem.problem.setting.prime
    (polynomial_of c.args.snapshot.now.state.entries c.args.best.now.number) =
    c.letters.ensures.letters
    ∙ sym (lead_is c.args.snapshot.now.problem.problem.setting
    c.args.snapshot.now.state.entries
    (snapshot_usable c.args.snapshot.now c.recall_rule.ensures.snapshot)
    (take c.args.best.now.left c.args.sig.now.left)
    (drop c.args.best.now.right c.args.sig.now.right) c.args.best.now.number
    c.requires.readable (entry_of c.entry.result.now) c.entry.ensures.entry
    c.lead-lead.result.now c.lead-lead.ensures) in
    rw (c.around.ensures.left, c.around.ensures.right, key) at c.join.ensures.letters
