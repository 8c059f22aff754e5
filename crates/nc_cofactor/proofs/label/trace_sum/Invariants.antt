use Rattle.nc_cofactor.specs.Sums.{IsSum, elements_of}
use Rattle.nc_theory.specs.Labels.{less_steps, start_label}
use Rattle.std.proofs.Common.{take}
use Rattle.nc_cofactor.proofs.label.trace_sum.Given as goal

abbrev pub invariant-loop-step : goal.invariant-loop-step
invariant-loop-step l =
    IsSum l.setting.setting (less_steps l.setting.setting.prime (elements_of l.labels)
    (start_label (elements_of l.labels) l.trace.start) (take l.step-index l.trace.steps)) l.sum
