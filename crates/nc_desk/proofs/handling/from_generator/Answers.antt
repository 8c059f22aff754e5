use Rattle.nc_algebra.specs.Elements.{generator}
use Rattle.nc_algebra.specs.Monomials.{Sig, monomial_of, unit_monomial}
use Rattle.nc_theory.proofs.Handling.{generator_handled}
use Rattle.nc_theory.specs.Outcomes.{outcome_after}
use Rattle.std.proofs.Common.{ap, refl, sym, ◌∙◌}
use Rattle.nc_desk.proofs.handling.from_generator.Goals as goal

pub returns : goal.returns
returns c =
    generator_handled c.args.snapshot.now.problem.problem.setting c.args.snapshot.now.state
    (monomial_of c.args.sig.now) c.requires.uncovered c.sig.inside.generator
    (generator c.args.snapshot.now.problem.problem.setting c.sig.inside.generator)
    c.in_ok-reduced.reduced.poly c.in_ok-reduced.reduced.trace.steps _
    (c.requires.unit ∙ ap (λ (σ : Sig). unit_monomial σ.generator) (sym c.sig.view_is)) refl
    c.in_ok-reduced.ensures.reduction
    (c.outcome_from.ensures ∙ ap (λ start. outcome_after start c.in_ok-reduced.reduced.poly
    c.in_ok-reduced.reduced.trace.steps) c.in_ok-reduced.ensures.start)
