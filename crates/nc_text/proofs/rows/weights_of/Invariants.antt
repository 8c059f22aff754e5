use Rattle.std.proofs.Common.{◌-◌}
use Rattle.nc_text.proofs.Weights.{IsOnTheWay}
use Rattle.nc_text.specs.Rows.{weights_at}
use Rattle.nc_text.proofs.rows.weights_of.Given as goal

abbrev pub invariant-weights : goal.invariant-weights
invariant-weights l =
    IsOnTheWay l.weights.items (l.letters - l.counter) l.line (weights_at l.letters l.fn.line)
