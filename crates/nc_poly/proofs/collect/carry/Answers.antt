use Rattle.nc_poly.proofs.Terms.{carried_begins, carried_step}
use Rattle.std.proofs.Common.{arith, refl}
use Rattle.nc_poly.proofs.collect.carry.Goals as goal

pub loop-at-init : goal.loop-at-init
loop-at-init c =
    record {
      residues = c.requires;
      long = refl;
      carried = λ l. carried_begins c.args.p c.args.terms.now.items
          (omega (arith, l, c.args.terms.now.ok.0));
    }

pub loop-at-preserved : goal.loop-at-preserved
loop-at-preserved c = record {
  residues = c.carry_pair.ensures.residues;
  long = omega (arith, c.carry_pair.ensures.long, c.loop-at.invariant.long);
  carried =
      λ l. carried_step c.args.p c.args.terms.now.items c.loop-at.terms.items
      c.carry_pair.new.terms.items c.loop-at.at
      (omega (arith, c.loop-at.invariant.long, c.loop-at.terms.ok.0)) c.carry_pair.ensures.pair
      (c.loop-at.invariant.carried l);
}
