-- The literals of numbers: decimal digits.
--
-- A number of eighteen digits fits in 64 bits, whichever digits it has. So the length alone limits
-- a literal, and leading zeros count as digits. No digits at all are no literal.
use Rattle.std.specs.Char.{IsAsciiDigit}
use Rattle.std.specs.Prelude.{All, List, ℕ, ◌<◌, ◌≤◌, length}

-- from one to eighteen decimal digits
pub record IsLiteral (digits : List ℕ) : Type 0 where
  pub some : 0 < length digits
  pub short : length digits ≤ 18
  pub decimal : All IsAsciiDigit digits
