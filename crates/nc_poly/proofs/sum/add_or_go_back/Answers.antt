use Rattle.nc_poly.proofs.Passes.{begun, stamps_weaker}
use Rattle.nc_poly.specs.Ordered.{AreResiduesBy}
use Rattle.std.proofs.Common.{subst, sym, ◌∙◌}
use Rattle.nc_poly.proofs.sum.add_or_go_back.Goals as goal

pub returns-in-Ok-clause-residues : goal.returns-in-Ok-clause-residues
returns-in-Ok-clause-residues g c =
    subst (AreResiduesBy c.args.p) (sym c.drop_zeros.ensures.terms) c.add_each.ensures.residues

pub returns-in-Ok-clause-stamps : goal.returns-in-Ok-clause-stamps
returns-in-Ok-clause-stamps g c =
    c.drop_zeros.ensures.stamps c.args.pass
    (c.add_each.ensures.stamps (stamps_weaker c.args.pass c.args.map.now.entries c.requires.stamps))

pub returns-in-Err-clause-residues : goal.returns-in-Err-clause-residues
returns-in-Err-clause-residues g c =
    subst (AreResiduesBy c.args.p)
    (sym (c.drop_zeros-in-Err.ensures.terms
    ∙ (c.go_back.ensures.terms ∙ (c.add_each.ensures.before
    ∙ begun c.args.pass c.args.map.now.entries c.requires.stamps)))) c.requires.residues

pub returns-in-Err-clause-stamps : goal.returns-in-Err-clause-stamps
returns-in-Err-clause-stamps g c =
    c.drop_zeros-in-Err.ensures.stamps c.args.pass
    (c.go_back.ensures.stamps (c.add_each.ensures.stamps
    (stamps_weaker c.args.pass c.args.map.now.entries c.requires.stamps)))

pub returns-in-Err-clause-err : goal.returns-in-Err-clause-err
returns-in-Err-clause-err g c =
    c.drop_zeros-in-Err.ensures.terms
    ∙ (c.go_back.ensures.terms ∙ (c.add_each.ensures.before
    ∙ begun c.args.pass c.args.map.now.entries c.requires.stamps))
