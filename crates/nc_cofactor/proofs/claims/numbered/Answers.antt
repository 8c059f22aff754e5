use Rattle.nc_cofactor.proofs.Filling.{emptied}
use Rattle.nc_cofactor.proofs.Numbered.{number_ends, number_skips, number_takes}
use Rattle.std.proofs.Common.{vec_len}
use Rattle.nc_cofactor.proofs.claims.numbered.Goals as goal

pub loop-slot-preserved-in-Continue-1 : goal.loop-slot-preserved-in-Continue-1
loop-slot-preserved-in-Continue-1 c =
    number_takes c.args.stack.items c.loop-slot.left.items c.pop.new.self.items c.in-Some.slot
    c.loop-slot.number c.loop-slot.kept.items c.loop-slot.invariant c.in-Some.ensures.items
    c.in-Some-slot.trace c.push.new.self.items c.in-Some-slot.is c.in_ok-push.ensures.items

pub loop-slot-preserved : goal.loop-slot-preserved
loop-slot-preserved c =
    number_skips c.args.stack.items c.loop-slot.left.items c.pop.new.self.items c.in-Some.slot
    c.loop-slot.number c.loop-slot.kept.items c.loop-slot.invariant c.in-Some.ensures.items
    c.in_default-slot.is

pub returns : goal.returns
returns c =
    number_ends c.args.stack.items c.loop-slot.left.items c.loop-slot.number c.loop-slot.kept.items
    (emptied c.loop-slot.left.items c.pop.new.self.items (vec_len c.loop-slot.left)
    c.in_default.ensures.items c.in_default.ensures.rest c.in_default.ensures.cases.0)
    c.loop-slot.invariant
