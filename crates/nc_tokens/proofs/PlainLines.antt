-- Lines of printable bytes without a comment.
-- Such a line says its own tokens (`written_line`): nothing of it is a line feed, a carriage return
-- or a comment.
use Rattle.nc_tokens.proofs.PlainBytes.{ArePlain, all_weaker, is_plain, plain_facts}
use Rattle.nc_tokens.specs.Lines.{Line, content, is_allowed, with_byte, lines, without_return, written}
use Rattle.nc_tokens.specs.Tokens.{is_blank, tokens}
use Rattle.std.proofs.Common.{List, [], ap, arith, eqb, false, get_or, length, refl, true, ℕ, ◌++◌, ◌+◌, ◌-◌, ◌<◌, ◌∷◌, ◌≡◌}
use Rattle.std.proofs.lemmas.Bool.{and_left, and_parts}
use Rattle.std.proofs.lemmas.List.Sums.{AllPass-from_list_all, position_or_len_is}
use Rattle.std.proofs.lemmas.List.{take_all}
use Rattle.std.specs.List.{list_all, position_or_len}

-- a line that is printed: plain bytes, of which the first is no blank
pub record IsPrintedLine (line : List ℕ) : Type 0 where
  pub plain : ArePlain line
  pub begun : is_blank (get_or line 0 32) ≡ false

pub first_line : (line rest : List ℕ) → ArePlain line
    → lines (line ++ 10 ∷ rest) ≡ line ∷ lines rest
unfolding lines
first_line [] rest h = refl
first_line (b ∷ line) rest h =
    let k = and_parts (is_plain b) (list_all is_plain line) h in
    rw ((plain_facts b k.0).0) (ap (with_byte b) (first_line line rest k.1))

plain_at : (line : List ℕ) (k : ℕ) → ArePlain line → k < length line
    → is_plain (get_or line k 0) ≡ true
plain_at line k h within = AllPass-from_list_all is_plain line h k 0 within

no_return : (line : List ℕ) → ArePlain line → without_return line ≡ line
no_return [] h = refl
no_return (b ∷ line) h =
    let e : eqb (get_or (b ∷ line) (length (b ∷ line) - 1) 0) 13 ≡ false =
    (plain_facts _ (plain_at (b ∷ line) (length (b ∷ line) - 1) h (omega arith))).1 in
    rw (e) refl

no_comment : (line : List ℕ) → ArePlain line → content line ≡ line
no_comment line h =
    let all : position_or_len (λ b. eqb b 35) line ≡ length line =
    position_or_len_is (λ b. eqb b 35) line (length line) 0 (omega arith)
    (λ k less. (plain_facts _ (plain_at line k h less)).2) (λ less. absurd (omega arith)) in
    rw (no_return line h, all) (take_all (length line) line (omega arith))

not_blank : (line : List ℕ) → is_blank (get_or line 0 32) ≡ false → list_all is_blank line ≡ false
not_blank [] h = h
not_blank (b ∷ line) h = and_left _ _ h

-- what a printed line says
pub written_line : (n : ℕ) (line : List ℕ) (ls : List (List ℕ)) → IsPrintedLine line
    → written n (line ∷ ls) ≡ Line n true (tokens line) (written (n + 1) ls)
unfolding written
written_line n line ls h =
    rw (
      no_comment line h.plain,
      not_blank line h.begun,
      all_weaker is_plain is_allowed (λ b e. (plain_facts b e).3) line h.plain,
    ) refl
