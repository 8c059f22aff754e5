use Rattle.std.proofs.Common.{arith, refl, ◌+◌}
use Rattle.nc_index.specs.declared.hit.Hit.{Hit}
use Rattle.nc_index.proofs.Regular.{no_pair, pair_found, pair_further}
use Rattle.nc_index.proofs.leads.Leads.first_regular.Goals as goal

pub loop-index-preserved : goal.loop-index-preserved
loop-index-preserved c =
    pair_further c.args.self.now c.args.word.now c.args.bound.now 0 c.loop-index.index
    c.pair.result.now c.loop-index.invariant c.pair.ensures c.in_default.ensures

pub returns-in-Some : goal.returns-in-Some
returns-in-Some c =
    let hit : Hit = record { number = c.loop-index.index + 1; place = c.in-Some.place } in
    pair_found c.args.self.now c.args.word.now c.args.bound.now c.loop-index.index c.pair.result.now
    hit c.loop-index.invariant c.pair.ensures c.in-Some.ensures refl

pub returns : goal.returns
returns c =
    no_pair c.args.self.now c.args.word.now c.args.bound.now c.loop-index.index
    c.loop-index.invariant (omega arith)
