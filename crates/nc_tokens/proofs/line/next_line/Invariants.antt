use Rattle.std.proofs.Common.{◌≡◌, ◌+◌, ◌≤◌, length}
use Rattle.nc_tokens.specs.Lines.{lines, written}
use Rattle.nc_tokens.proofs.line.next_line.Given as goal

abbrev pub invariant-loop-rest : goal.invariant-loop-rest
invariant-loop-rest l = record {
  same : written l.at (lines l.rest) ≡ written l.number (lines l.bytes);
  within : l.at + length l.rest ≤ l.number + length l.bytes;
}

abbrev pub decreases-loop-rest : goal.decreases-loop-rest
decreases-loop-rest l = length l.rest
