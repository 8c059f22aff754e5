use Rattle.nc_algebra.specs.Monomials.{Sig, monomial_of}
use Rattle.nc_algebra.specs.Polynomials.{Polynomial}
use Rattle.nc_cofactor.proofs.Items.{entry_has_trace, entry_lesser}
use Rattle.nc_cofactor.specs.Rebuilding.{AreLesser}
use Rattle.nc_cofactor.specs.Traces.{HasTrace}
use Rattle.nc_snapshot.specs.Snapshots.{entry_of}
use Rattle.nc_snapshot.specs.declared.outcome.Listed.TheVariants.{Entry as EntryOf}
use Rattle.nc_theory.specs.Rebuilding.{Rebuilds}
use Rattle.nc_theory.specs.States.{Trace}
use Rattle.std.proofs.Common.{subst, sym, ◌-◌, ◌∙◌}
use Rattle.std.proofs.lemmas.Result.{IfOk-weaker}
use Rattle.nc_cofactor.proofs.trace.entry_trace.Goals as goal

pub rebuild-requires-clause-lesser : goal.rebuild-requires-clause-lesser
rebuild-requires-clause-lesser c =
    subst (λ (σ : Sig). AreLesser c.args.snapshot.now.problem.problem.setting
    c.args.snapshot.now.state.entries (monomial_of σ) (c.args.number - 1))
    (sym (c.deref.ensures ∙ c.sig.ensures))
    (entry_lesser c.args.snapshot.now c.recall_rule.ensures.snapshot c.args.number
    (entry_of c.entry.result.now) c.entry.ensures.entry)

pub returns : goal.returns
returns c =
    IfOk-weaker c.rebuild.result (λ (t : Trace). (f : Polynomial)
    × Rebuilds c.args.snapshot.now.problem.problem.setting c.args.snapshot.now.state.entries
    (monomial_of c.deref.result.now) t f)
    (HasTrace c.args.snapshot.now.problem.problem c.args.snapshot.now.handled
    (EntryOf c.args.number))
    (λ t (f, r). entry_has_trace c.args.snapshot.now c.recall_rule.ensures.snapshot c.args.number
    (entry_of c.entry.result.now) c.requires.some c.entry.ensures.entry t f
    (subst (λ (σ : Sig). Rebuilds c.args.snapshot.now.problem.problem.setting
    c.args.snapshot.now.state.entries (monomial_of σ) t f) (c.deref.ensures ∙ c.sig.ensures)
    r))
    c.rebuild.ensures
