use Rattle.nc_algebra.specs.Monomials.{Sig, monomial_of}
use Rattle.nc_algebra.specs.Polynomials.{Polynomial}
use Rattle.nc_cofactor.proofs.Items.{syzygy_has_trace}
use Rattle.nc_cofactor.specs.Traces.{HasTrace}
use Rattle.nc_snapshot.specs.Snapshots.{syzygy_of}
use Rattle.nc_snapshot.specs.declared.outcome.Listed.TheVariants.{Syzygy as SyzygyOf}
use Rattle.nc_theory.specs.Rebuilding.{Rebuilds}
use Rattle.nc_theory.specs.States.{Trace}
use Rattle.std.proofs.Common.{subst, ◌∙◌}
use Rattle.std.proofs.lemmas.Result.{IfOk-weaker}
use Rattle.nc_cofactor.proofs.trace.syzygy_trace.Goals as goal

pub returns : goal.returns
returns c =
    IfOk-weaker c.rebuild.result (λ (t : Trace). (f : Polynomial)
    × Rebuilds c.args.snapshot.now.problem.problem.setting c.args.snapshot.now.state.entries
    (monomial_of c.deref.result.now) t f)
    (HasTrace c.args.snapshot.now.problem.problem c.args.snapshot.now.handled
    (SyzygyOf c.args.number))
    (λ t (f, r). syzygy_has_trace c.args.snapshot.now c.recall_rule.ensures.snapshot c.args.number
    (syzygy_of c.syzygy.result.now) c.requires.some c.syzygy.ensures.syzygy t f
    (subst (λ (σ : Sig). Rebuilds c.args.snapshot.now.problem.problem.setting
    c.args.snapshot.now.state.entries (monomial_of σ) t f)
    (c.deref.ensures ∙ c.sig-sig.ensures) r))
    c.rebuild.ensures
