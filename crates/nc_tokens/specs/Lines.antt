-- The lines of a text: those that are not blank, and the next one of them.
--
-- A line ends at a line feed. Blank lines, and lines with only a comment, are passed over, but
-- counted: numbers of lines begin at 1 and are those that an editor shows. A line has no fault of
-- its own before it is asked for, so the first fault of a text is the first one in the order of
-- reading.
--
-- A line is asked for by its keyword, which is its first token. Some lines may be missing: `a_line`
-- takes the next one only if it has the keyword. Where a line must come, `the_line` tells a fault:
-- bytes that are not allowed, the wrong keyword, or the end of the text.
use Rattle.nc_tokens.specs.declared.fault.Kind.{Kind}
use Rattle.nc_tokens.specs.declared.fault.Kind.TheVariants.{BadByte, Missing, WrongLine}
use Rattle.nc_tokens.specs.declared.fault.TextFault.{TextFault}
use Rattle.nc_tokens.specs.Tokens.{Name, Token, is_blank, tokens}
use Rattle.std.specs.Int.{is_in_range}
use Rattle.std.specs.List.{before_first, list_all}
use Rattle.std.specs.Prelude.{Bool, Err, List, None, Ok, Option, Result, Some, [], false, if◌then◌else◌, length, slice_index, take, true, ℕ, ◌&&◌, ◌+◌, ◌-◌, ◌==◌, ◌||◌, ◌∷◌}
use Rattle.std.specs.Str.{bytes_eq}

-- ---- cutting a text into lines

-- a byte in front of the first line
abbrev pub with_byte : ℕ → List (List ℕ) → List (List ℕ)
with_byte b [] = (b ∷ []) ∷ []
with_byte b (line ∷ lines) = (b ∷ line) ∷ lines

-- the lines, without the line feeds that end them; a last piece is a line where it is not empty
unfoldable pub lines : List ℕ → List (List ℕ)
lines [] = []
lines (b ∷ bs) = if b == 10 then [] ∷ lines bs else with_byte b (lines bs)

-- a line without a carriage return that stands last
abbrev pub without_return : List ℕ → List ℕ
without_return line =
    if slice_index line (length line - 1) == 13 then take (length line - 1) line else line

-- what stands before the comment, which a `#` begins
abbrev pub content : List ℕ → List ℕ
content line = before_first (λ b. b == 35) (without_return line)

-- the tab and the bytes 32 to 126
abbrev pub is_allowed : ℕ → Bool
is_allowed b = (b == 9) || is_in_range 32 126 b

-- The lines that are not blank, each with its number, whether its bytes are allowed, and its
-- tokens; then the end, with the number of lines plus 1.
pub data Written : Type 0 where
  End : ℕ → Written
  Line : ℕ → Bool → List Token → Written → Written

-- what the lines say, of which the first has number n
unfoldable pub written : ℕ → List (List ℕ) → Written
written n [] = End n
written n (line ∷ lines) = if list_all is_blank (content line) then written (n + 1) lines
    else Line n (list_all is_allowed (content line)) (tokens (content line)) (written (n + 1) lines)

-- how many lines are left
abbrev pub lines_left : Written → ℕ
lines_left (End n) = 0
lines_left (Line n clean ts after) = lines_left after + 1

-- ---- taking the next line

-- a fault in line n
abbrev pub fault_at : ℕ → Kind → TextFault
fault_at n kind = record { line = n; kind = kind }

-- what is read in line n
abbrev pub at_line : {A : Type 0} → ℕ → Result A Kind → Result A TextFault
at_line n (Ok x) = Ok x
at_line n (Err kind) = Err (fault_at n kind)

-- whether the first token is this keyword
abbrev pub begins : List ℕ → List Token → Bool
begins keyword (Name name ∷ rest) = bytes_eq name keyword
begins keyword ts = false

-- the tokens behind the first
abbrev pub behind : List Token → List Token
behind [] = []
behind (t ∷ ts) = ts

-- a line that was taken: its number, the tokens behind its keyword, and what is written after it
pub record Row : Type 0 where
  pub number : ℕ
  pub tokens : List Token
  pub after : Written

-- the line with this number, these tokens behind its keyword, and this after it
abbrev pub row : ℕ → List Token → Written → Row
row n ts after = record { number = n; tokens = ts; after = after }

-- the next line, if it has the keyword
unfoldable pub a_line : List ℕ → Written → Option Row
a_line keyword (End n) = None
a_line keyword (Line n clean ts after) =
    if clean && begins keyword ts then Some (row n (behind ts) after) else None

-- the next line, which must have the keyword
unfoldable pub the_line : List ℕ → Written → Result Row TextFault
the_line keyword (End n) = Err (fault_at n Missing)
the_line keyword (Line n false ts after) = Err (fault_at n BadByte)
the_line keyword (Line n true ts after) =
    if begins keyword ts then Ok (row n (behind ts) after) else Err (fault_at n WrongLine)

-- no further line may come
unfoldable pub the_end : Written → Result (Unit {0}) TextFault
the_end (End n) = Ok tt
the_end (Line n false ts after) = Err (fault_at n BadByte)
the_end (Line n true ts after) = Err (fault_at n WrongLine)
