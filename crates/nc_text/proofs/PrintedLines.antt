-- Printed lines, cut at their line feeds, are the lines that were ended; and whether the next one
-- has a keyword.
use Rattle.nc_print.specs.Printing.{ended}
use Rattle.nc_tokens.proofs.Bytes.{bytes_same}
use Rattle.nc_tokens.proofs.KeywordLines.{IsLineOf, said}
use Rattle.nc_tokens.proofs.PlainLines.{IsPrintedLine, first_line}
use Rattle.nc_tokens.specs.Lines.{begins, a_line, lines, row, written}
use Rattle.nc_tokens.specs.Tokens.{Name, Token}
use Rattle.std.proofs.Common.{List, None, Some, [], ap, append_assoc, bytes_eq, false, refl, true, ℕ, ◌++◌, ◌+◌, ◌∙◌, ◌∷◌, ◌≡◌}
use Rattle.std.specs.List.{AllByRecursion}

pub lines_ended : (ls : List (List ℕ)) → AllByRecursion IsPrintedLine ls → lines (ended ls) ≡ ls
unfolding lines
lines_ended [] h = refl
lines_ended (line ∷ ls) h =
    ap lines (append_assoc line (10 ∷ []) (ended ls)) ∙ first_line line (ended ls) h.0.plain
    ∙ ap (λ (l : List (List ℕ)). line ∷ l) (lines_ended ls h.1)

pub all_printed : (xs ys : List (List ℕ)) → AllByRecursion IsPrintedLine xs
    → AllByRecursion IsPrintedLine ys → AllByRecursion IsPrintedLine (xs ++ ys)
all_printed [] ys h k = k
all_printed (x ∷ xs) ys h k = (h.0, all_printed xs ys h.1 k)

-- the next line is found by its keyword, and not by another one
pub found : (keyword line : List ℕ) (ts : List Token) (n : ℕ) (ls : List (List ℕ))
    → IsLineOf keyword ts line → a_line keyword (written n (line ∷ ls))
    ≡ Some (row n ts (written (n + 1) ls))
unfolding a_line
found keyword line ts n ls h =
    let begun : begins keyword (Name keyword ∷ ts) ≡ true = bytes_same keyword in
    ap (a_line keyword) (said keyword line ts n ls h) ∙ rw (begun) refl

pub not_found : (keyword line : List ℕ) (ts : List Token) (n : ℕ) (ls : List (List ℕ))
    (wanted : List ℕ) → IsLineOf keyword ts line → bytes_eq keyword wanted ≡ false
    → a_line wanted (written n (line ∷ ls)) ≡ None
unfolding a_line
not_found keyword line ts n ls wanted h other =
    ap (a_line wanted) (said keyword line ts n ls h) ∙ rw (other) refl
