use Rattle.nc_module.proofs.Modules.{module_subtracted, pairs_are, pairs_small}
use Rattle.std.proofs.Common.{arith, refl}
use Rattle.nc_module.proofs.module.Module.sub_multiple.Goals as goal

pub collect-requires : goal.collect-requires
collect-requires c =
    pairs_small c.args.p c.args.u.now c.args.v.now c.args.self.now c.args.m.now c.neg.result _
    (omega (arith, c.requires.factor)) c.requires.residues
    (pairs_are c.args.p c.args.u.now c.args.v.now c.args.self.now c.args.m.now
    c.new-pairs.result.items c.push_copies.new.out.items c.push_multiples.new.out.items
    c.neg.result c.neg.result c.terms.result.now c.terms-2.result.now
    c.new-pairs.ensures.items c.terms.ensures.terms c.terms-2.ensures.terms refl
    c.in_ok-push_copies.ensures c.in_ok-push_multiples.ensures)

pub returns-clause-difference : goal.returns-clause-difference
returns-clause-difference c =
    module_subtracted c.args.p c.args.c c.args.u.now c.args.v.now c.args.self.now c.args.m.now
    c.in_ok-self-inside.field-0.items c.new-pairs.result.items c.push_copies.new.out.items
    c.push_multiples.new.out.items c.neg.result c.terms.result.now c.terms-2.result.now
    c.requires.factor c.new-pairs.ensures.items c.terms.ensures.terms c.terms-2.ensures.terms
    c.neg.ensures.value c.in_ok-push_copies.ensures c.in_ok-push_multiples.ensures
    c.in_ok-self-inside.ensures.sum
