-- How the definitions see the lines that the code takes from a text.
--
-- A line of the code has its number and its tokens. The rest of the text is with the code's reader,
-- so it is told beside the line.
use Rattle.nc_tokens.specs.declared.text.Row.{Row}
use Rattle.nc_tokens.specs.Lines as lines
use Rattle.nc_tokens.specs.Lines.{Written}
use Rattle.nc_tokens.specs.Tokens.{Token}
use Rattle.std.specs.Prelude.{List, None, Option, Some, false, true, ℕ, ◌≡◌}

-- the tokens behind a keyword, if it stands first
abbrev pub IsBegun : List ℕ → List Token → Option (List Token) → Type 0
IsBegun keyword ts (Some rest) = (lines.begins keyword ts ≡ true) × (lines.behind ts ≡ rest)
IsBegun keyword ts None = lines.begins keyword ts ≡ false

-- a line of the code, before what is written after it
abbrev pub seen_row : Row → Written → lines.Row
seen_row r after = lines.row r.number r.tokens after

-- the next line is taken if it has the keyword, and else none is
abbrev pub IsTakenRow : Option lines.Row → Written → Written → Option Row → Type 0
IsTakenRow row old new (Some r) = row ≡ Some (seen_row r new)
IsTakenRow row old new None = (row ≡ None) × (new ≡ old)
