use Rattle.std.proofs.Common.{◌≤◌, [], length}
use Rattle.nc_text.specs.Rows.{letters_at}
use Rattle.nc_text.proofs.Letters.{IsOnTheWay}
use Rattle.nc_text.proofs.rows.letter_names.Given as goal

abbrev pub invariant-names : goal.invariant-names
invariant-names l = record {
  reads : IsOnTheWay l.names.items l.line (letters_at [] l.fn.line);
  few : length l.names.items ≤ 64;
}

abbrev pub decreases-names : goal.decreases-names
decreases-names l = length l.line
