use Rattle.nc_cofactor.proofs.Marks.{steps_high, steps_low}
use Rattle.nc_theory.specs.States.{Trace}
use Rattle.std.proofs.Common.{ap, arith, length, ◌∙◌}
use Rattle.nc_cofactor.proofs.sweep.mark.Goals as goal

pub mark_steps-requires-clause-some : goal.mark_steps-requires-clause-some
mark_steps-requires-clause-some c =
    steps_low c.args.trace.now c.items.result.now (length c.args.marks.now)
    (c.items.ensures ∙ ap (λ (t : Trace). t.steps) c.trace.view_is) c.requires

pub mark_steps-requires-clause-within : goal.mark_steps-requires-clause-within
mark_steps-requires-clause-within c k d within =
    let low =
    steps_high c.args.trace.now c.items.result.now (length c.args.marks.now)
    (c.items.ensures ∙ ap (λ (t : Trace). t.steps) c.trace.view_is) c.requires k d within in
    omega (arith, low, c.mark_start.auto.marks)
