use Rattle.nc_algebra.specs.Certificates.{line_reach}
use Rattle.nc_text.proofs.PartLines.{IsOnTheWay}
use Rattle.nc_text.specs.Certificates.{part_lines}
use Rattle.nc_tokens.specs.Lines.{lines_left}
use Rattle.nc_tokens.specs.Unread.{left}
use Rattle.std.proofs.Common.{All, [], length, ◌+◌, ◌≡◌, ◌≤◌}
use Rattle.nc_text.proofs.lines.parts_of.Given as goal

abbrev pub invariant-lines : goal.invariant-lines
invariant-lines l = record {
  reads : IsOnTheWay l.setting l.lines l.reaches.items l.line (left l.text)
      (part_lines l.setting [] [] (left l.fn.text));
  reach : l.reach ≡ line_reach l.setting.setting l.reaches.items l.line;
  short : l.reach ≤ 100000;
  reached : All (λ m. m ≤ 100000) l.reaches.items;
  paired : length l.reaches.items ≡ length l.lines;
  few : length l.lines + lines_left (left l.text) ≤ 16777216;
}

abbrev pub decreases-lines : goal.decreases-lines
decreases-lines l = lines_left (left l.text)
