use Rattle.std.proofs.Common.{arith, refl, ◌≤◌}
use Rattle.std.proofs.lemmas.Bool.{false≢true}
use Rattle.nc_index.proofs.Regular.{no_pair_from, pair_further, pair_stands}
use Rattle.nc_index.proofs.leads.Leads.regular_after.Goals as goal

pub loop-index-preserved : goal.loop-index-preserved
loop-index-preserved c =
    pair_further c.args.self.now c.args.word.now c.args.bound.now c.args.after c.loop-index.index
    c.pair.result.now c.loop-index.invariant c.pair.ensures c.in_default.ensures

pub returns-in-Some : goal.returns-in-Some
returns-in-Some c = (
  λ _. pair_stands c.args.self.now c.args.word.now c.args.bound.now c.args.after c.loop-index.index
      c.pair.result.now c.in-Some.field-0 c.loop-index.auto.index c.pair.ensures c.in-Some.ensures,
  λ _. refl,
)

pub returns : goal.returns
returns c = (
  λ t. absurd (false≢true t),
  λ h. absurd (no_pair_from c.args.self.now c.args.word.now c.args.bound.now c.args.after
      c.loop-index.index c.loop-index.invariant (omega arith) h),
)
