use Rattle.nc_algebra.specs.Elements.{Setting}
use Rattle.nc_module.proofs.Bounds.{under_tested}
use Rattle.nc_module.specs.Problems.{HasBoundDegree, bound_of}
use Rattle.nc_overlap.proofs.Sides.{degree_tested, multiple_degree}
use Rattle.nc_overlap.specs.Sides.{side_sig}
use Rattle.std.proofs.Common.{ap, subst, sym, ◌∙◌}
use Rattle.std.specs.Ordering.{is_lt}
use Rattle.nc_overlap.proofs.side.Side.is_within.Goals as goal

pub returns-in-Degree : goal.returns-in-Degree
returns-in-Degree c =
    let s : Setting = c.args.problem.now.problem.setting in
    degree_tested s c.args.problem.now.problem.bound (side_sig c.args.self.now) c.in-Degree.d
    c.degree.result c.from.result (ap bound_of (sym c.in-Degree.is) ∙ c.bound.ensures.bound)
    c.requires.generator (multiple_degree s c.args.self.now.left.now c.args.self.now.right.now
    c.args.self.now.sig.now c.requires.degree) c.degree.ensures c.from.ensures

pub returns-in-Below : goal.returns-in-Below
returns-in-Below c =
    let s : Setting = c.args.problem.now.problem.setting in
    under_tested s c.args.problem.now.problem.bound (side_sig c.args.self.now) c.in-Below.beta
    c.is_lt.result (sym c.bound.ensures.bound ∙ ap bound_of c.in-Below.is) c.requires.generator
    (multiple_degree s c.args.self.now.left.now c.args.self.now.right.now
    c.args.self.now.sig.now c.requires.degree)
    (subst (HasBoundDegree s) c.in-Below.is c.bound.ensures.degree)
    (c.is_lt.ensures ∙ ap is_lt c.compare_times.ensures)
