use Rattle.nc_algebra.specs.Problems.{NamedProblem}
use Rattle.nc_module.specs.Problems.{HasBoundDegree, bound_of}
use Rattle.nc_reduce.proofs.Limits.{limit_copied}
use Rattle.std.proofs.Common.{ap, subst, sym, ◌∙◌, ◌≡◌}
use Rattle.nc_reduce.proofs.limit.limit_of.Goals as goal

pub returns-in-Below : goal.returns-in-Below
returns-in-Below c =
    let same : c.deref.result.now ≡ c.args.snapshot.now.problem =
    c.deref.ensures ∙ c.problem-problem.ensures.problem in
    let degree : HasBoundDegree c.args.snapshot.now.problem.problem.setting c.bound.result.now =
    subst (λ (P : NamedProblem). HasBoundDegree P.problem.setting c.bound.result.now) same
    c.bound.ensures.degree in
    limit_copied c.args.snapshot.now.problem.problem c.in-Below.beta
    (sym (ap bound_of c.in-Below.is)
    ∙ (c.bound.ensures.bound ∙ ap (λ (P : NamedProblem). P.problem.bound) same))
    (subst (HasBoundDegree c.args.snapshot.now.problem.problem.setting) c.in-Below.is degree)
    c.copy.result c.copy.ensures
