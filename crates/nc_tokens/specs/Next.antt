-- What the code finds next in a text: its next line that is not blank, or the end.
--
-- The definitions have all lines of a text at once; the code finds them one by one in the bytes
-- that are left. That the bytes become fewer limits the number of lines.
use Rattle.nc_tokens.specs.declared.line.Next.{Next}
use Rattle.nc_tokens.specs.declared.line.Next.TheVariants as code
use Rattle.nc_tokens.specs.Lines.{End, Line, Written, is_allowed, lines, written}
use Rattle.nc_tokens.specs.Tokens.{tokens}
use Rattle.std.specs.List.{list_all}
use Rattle.std.specs.Prelude.{length, ℕ, ◌+◌, ◌≡◌, ◌≤◌}

-- the next line of what is written; its number and the bytes behind it stay within the whole
abbrev pub IsNextWritten : ℕ → Written → Next → Type 0
IsNextWritten whole w (code.End n) = w ≡ End n
IsNextWritten whole w (code.Line n content rest) =
    (w ≡ Line n (list_all is_allowed content.now) (tokens content.now)
    (written (n + 1) (lines rest.now))) × (n + 1 + length rest.now ≤ whole)
