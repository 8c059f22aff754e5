use Rattle.std.proofs.Common.{◌≡◌, ◌++◌, take}
use Rattle.std.specs.List.{flat_map}
use Rattle.nc_report.specs.Traces.{step_text}
use Rattle.nc_report.proofs.trace.write_steps.Given as goal

abbrev pub invariant-loop-step : goal.invariant-loop-step
invariant-loop-step l =
    l.out.items ≡ l.initial.out.items ++ flat_map (step_text l.names) (take l.step-index l.steps)
