use Rattle.nc_algebra.specs.Monomials.{Sig, monomial_of}
use Rattle.nc_cofactor.proofs.Starts.{generator_over, multiple_over}
use Rattle.nc_cofactor.specs.Rebuilding.{IsStartOver}
use Rattle.nc_snapshot.specs.Traces.{start_of}
use Rattle.nc_snapshot.specs.declared.trace.Start.{Start as Begin}
use Rattle.nc_theory.specs.States.{Start}
use Rattle.std.proofs.Common.{ap, drop, subst, sym, take, ◌∙◌, ◌≡◌}
use Rattle.std.proofs.lemmas.Bool.{false≢true}
use Rattle.std.proofs.lemmas.Result.{IfOk-weaker}
use Rattle.nc_cofactor.proofs.rebuilds.start_over.Goals as goal

pub returns-then-is_unit : goal.returns-then-is_unit
returns-then-is_unit c =
    subst (λ i. IsStartOver c.args.snapshot.now.problem.problem.setting
    c.args.snapshot.now.state.entries (monomial_of c.args.sig.now) c.args.entries
    (Start.a_generator i)) (ap (λ (σ : Sig). σ.generator) (sym c.sig.view_is))
    (generator_over c.args.snapshot.now.problem.problem.setting c.args.snapshot.now.state.entries
    (monomial_of c.args.sig.now) c.args.entries c.requires.generator
    (c.is_unit.ensures.0 c.if-is_unit.true))

pub returns : goal.returns
returns c =
    IfOk-weaker c.start.result
    (λ (a : Begin). start_of a ≡ Start.a_multiple
    (take c.best_of_first-best.result.left c.args.sig.now.left)
    c.best_of_first-best.result.number
    (drop c.best_of_first-best.result.right c.args.sig.now.right))
    (λ (a : Begin). IsStartOver c.args.snapshot.now.problem.problem.setting
    c.args.snapshot.now.state.entries (monomial_of c.args.sig.now) c.args.entries
    (start_of a))
    (λ a is. multiple_over c.args.snapshot.now.problem.problem.setting
    c.args.snapshot.now.state.entries (monomial_of c.args.sig.now) c.args.entries
    (λ e. false≢true (sym c.if-is_unit.false ∙ c.is_unit.ensures.1 e))
    c.best_of_first-best.result c.best_of_first-best.ensures c.requires.start (start_of a) is)
    c.start.ensures
