use Rattle.nc_member.specs.Lines.{step_part}
use Rattle.std.proofs.Common.{map, take, ◌≡◌}
use Rattle.nc_member.proofs.lines.last_line.Given as goal

abbrev pub invariant-loop-step : goal.invariant-loop-step
invariant-loop-step l =
    l.line ≡ map (λ step. step_part l.entries step.coefficient step) (take l.step-index l.steps)
