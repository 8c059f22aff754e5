-- Printed lines that begin with a keyword, and how they are taken.
use Rattle.nc_algebra.specs.Alphabets.{is_name}
use Rattle.nc_tokens.proofs.Bytes.{bytes_same}
use Rattle.nc_tokens.proofs.PlainBytes.{ArePlain, name_plain, plain_append}
use Rattle.nc_tokens.proofs.PlainLines.{IsPrintedLine, written_line}
use Rattle.nc_tokens.proofs.PrintedTokens.{IsBreak, name_token, space_token}
use Rattle.nc_tokens.specs.Lines.{Line, begins, row, the_line, written}
use Rattle.nc_tokens.specs.Tokens.{Name, Token, is_blank, tokens}
use Rattle.std.proofs.Common.{List, Ok, ap, false, get_or, refl, true, ℕ, ◌++◌, ◌+◌, ◌∙◌, ◌∷◌, ◌≡◌}

-- a printed line that begins with a keyword
pub record IsLineOf (keyword : List ℕ) (ts : List Token) (line : List ℕ) : Type 0 where
  pub printed : IsPrintedLine line
  pub says : tokens line ≡ Name keyword ∷ ts

-- a keyword: a name that begins with a letter
pub record IsKeyword (keyword : List ℕ) : Type 0 where
  pub name : is_name keyword ≡ true
  pub begun : (rest : List ℕ) → is_blank (get_or (keyword ++ rest) 0 32) ≡ false

pub keyword_line : (keyword rest : List ℕ) → IsKeyword keyword → IsBreak rest → ArePlain rest
    → IsLineOf keyword (tokens rest) (keyword ++ rest)
keyword_line keyword rest is breaks plain = record {
  printed =
      record {
        plain = plain_append keyword rest (name_plain keyword is.name) plain;
        begun = is.begun rest;
      };
  says = name_token keyword rest is.name breaks;
}

pub spaced_line : (keyword rest : List ℕ) → IsKeyword keyword → ArePlain rest
    → IsLineOf keyword (tokens rest) (keyword ++ 32 ∷ rest)
spaced_line keyword rest is plain =
    let line = keyword_line keyword (32 ∷ rest) is (refl, refl) plain in
    record {
      printed = line.printed;
      says = line.says ∙ ap (λ (ts : List Token). Name keyword ∷ ts) (space_token rest);
    }

-- ---- taking them

pub said : (keyword line : List ℕ) (ts : List Token) (n : ℕ) (ls : List (List ℕ))
    → IsLineOf keyword ts line → written n (line ∷ ls) ≡ Line n true (Name keyword ∷ ts)
    (written (n + 1) ls)
said keyword line ts n ls h =
    written_line n line ls h.printed
    ∙ ap (λ (all : List Token). Line n true all (written (n + 1) ls)) h.says

pub taken : (keyword line : List ℕ) (ts : List Token) (n : ℕ) (ls : List (List ℕ))
    → IsLineOf keyword ts line → the_line keyword (written n (line ∷ ls))
    ≡ Ok (row n ts (written (n + 1) ls))
unfolding the_line
taken keyword line ts n ls h =
    let begun : begins keyword (Name keyword ∷ ts) ≡ true = bytes_same keyword in
    ap (the_line keyword) (said keyword line ts n ls h) ∙ rw (begun) refl
