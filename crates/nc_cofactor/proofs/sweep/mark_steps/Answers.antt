use Rattle.nc_cofactor.proofs.Marks.{marks_end, marks_more}
use Rattle.nc_cofactor.specs.Needed.{MarksMore}
use Rattle.nc_theory.specs.States.{Step}
use Rattle.std.proofs.Common.{ap, arith, subst, ◌≡◌}
use Rattle.nc_cofactor.proofs.sweep.mark_steps.Goals as goal

pub loop-step-preserved : goal.loop-step-preserved
loop-step-preserved c =
    marks_more (λ (s : Step). s.number) c.args.marks.now c.loop-step.marks c.set_mark.new.marks
    c.args.steps.now c.loop-step.step-index c.step-item.result c.loop-step-test.true
    c.step-item.is c.loop-step.invariant
    (subst (λ i. MarksMore c.loop-step.marks c.set_mark.new.marks (λ j. i ≡ j))
    (ap (λ (s : Step). s.number) c.step.view_is) c.set_mark.ensures)

pub returns : goal.returns
returns c =
    marks_end (λ (s : Step). s.number) c.args.marks.now c.loop-step.marks c.args.steps.now
    c.loop-step.step-index (omega arith) c.loop-step.invariant
