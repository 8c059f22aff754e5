use Rattle.nc_cofactor.specs.Needed.{MarksMore, StepsName}
use Rattle.std.proofs.Common.{take}
use Rattle.nc_cofactor.proofs.sweep.mark_steps.Given as goal

abbrev pub invariant-loop-step : goal.invariant-loop-step
invariant-loop-step l = MarksMore l.initial.marks l.marks (StepsName (take l.step-index l.steps))
