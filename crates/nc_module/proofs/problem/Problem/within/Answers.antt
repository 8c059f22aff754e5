use Rattle.nc_algebra.specs.Elements.{HasDegree}
use Rattle.nc_module.proofs.Bounds.{under_tested}
use Rattle.nc_module.proofs.problem.Problem.within.Goals as goal
use Rattle.nc_module.specs.Problems.{HasBoundDegree, bound_of}
use Rattle.std.proofs.Common.{ap, subst, sym, ◌∙◌}
use Rattle.std.specs.Ordering.{is_lt}

pub returns-in-Below : goal.returns-in-Below
returns-in-Below c =
    let beta : HasDegree c.args.self.now.problem.setting c.in-Below.beta =
    subst (λ s. HasDegree s c.in-Below.beta) (ap (λ P. P.problem.setting) c.self.view_is)
    (subst (HasBoundDegree c.self.inside.setting.setting) c.in-Below.is c.self.invariant.1) in
    under_tested c.args.self.now.problem.setting c.args.self.now.problem.bound c.args.sig.now
    c.in-Below.beta c.is_lt.result (sym (ap (λ P. P.problem.bound) c.self.view_is)
    ∙ ap bound_of c.in-Below.is) c.requires.generator c.requires.degree beta
    (c.is_lt.ensures ∙ ap is_lt c.cmp.ensures)
