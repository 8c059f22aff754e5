use Rattle.nc_member.specs.Lines.{start_part, step_part}
use Rattle.std.proofs.Common.{map, take, ◌%◌, ◌-◌, ◌∷◌, ◌≡◌}
use Rattle.nc_member.proofs.lines.entry_line.Given as goal

abbrev pub invariant-loop-step : goal.invariant-loop-step
invariant-loop-step l =
    l.line ≡ start_part l.entries l.trace.start
    ∷ map (λ step. step_part l.entries ((l.p - step.coefficient) % l.p) step)
    (take l.step-index l.step-items)
