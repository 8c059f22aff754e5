use Rattle.nc_cofactor.specs.Sums.{IsSum, elements_of}
use Rattle.nc_theory.specs.Labels.{step_multiples}
use Rattle.std.proofs.Common.{take}
use Rattle.nc_cofactor.proofs.label.steps_sum.Given as goal

abbrev pub invariant-loop-step : goal.invariant-loop-step
invariant-loop-step l =
    IsSum l.setting.setting (step_multiples (elements_of l.labels) (take l.step-index l.steps))
    l.sum
