-- What is left of a text while it is read.
--
-- The code's reader is seen as this record: lines that are not cut into tokens yet, blank ones
-- included.
use Rattle.nc_tokens.specs.Lines.{Written, written}
use Rattle.std.specs.Prelude.{List, ℕ}

-- the lines that are not read yet, and the number of the first of them
pub record Unread : Type 0 where
  pub number : ℕ
  pub lines : List (List ℕ)

-- the lines that are not read yet, as they are written
abbrev pub left : Unread → Written
left u = written u.number u.lines
