-- How a text is cut into lines.
-- The code looks for the next line feed. The text is then the bytes before it as one line, and the
-- lines of what follows (`line_split`). `passed` is a blank line, `comes` another one, `over` the
-- end.
use Rattle.std.proofs.Common.{◌≡◌, ℕ, suc, ◌-◌, ◌+◌, ◌<◌, Bool, true, false, cond, not, eqb, List, [], ◌∷◌, length, take, drop, refl, sym, ap, ◌∙◌, arith}
use Rattle.std.specs.List.{prefix_len, list_all}
use Rattle.std.proofs.lemmas.Bool.{eqb-true}
use Rattle.std.proofs.lemmas.List.{nil_from_length, take_all, length-drop}
use Rattle.nc_tokens.specs.Tokens.{is_blank, tokens}
use Rattle.nc_tokens.specs.Lines.{with_byte, lines, content, is_allowed, End, Line, written}

abbrev pub line_len : List ℕ → ℕ
line_len bs = prefix_len (λ b. not (eqb b 10)) bs

pub line_split : (bs : List ℕ) → 0 < length bs
    → lines bs ≡ take (line_len bs) bs ∷ lines (drop 1 (drop (line_len bs) bs))
unfolding lines
line_split [] h = absurd (omega arith)
line_split (b ∷ []) h = by_byte (eqb b 10) refl
  where
    by_byte : (t : Bool) → eqb b 10 ≡ t → lines (b ∷ []) ≡ take (line_len (b ∷ [])) (b ∷ [])
        ∷ lines (drop 1 (drop (line_len (b ∷ [])) (b ∷ [])))
    by_byte true e = rw (e) refl
    by_byte false e = rw (e) refl
line_split (b ∷ c ∷ bs) h = by_byte (eqb b 10) refl (line_split (c ∷ bs) (omega arith))
  where
    by_byte : (t : Bool) → eqb b 10 ≡ t → lines (c ∷ bs) ≡ take (line_len (c ∷ bs)) (c ∷ bs)
        ∷ lines (drop 1 (drop (line_len (c ∷ bs)) (c ∷ bs)))
        → lines (b ∷ c ∷ bs) ≡ take (line_len (b ∷ c ∷ bs)) (b ∷ c ∷ bs)
        ∷ lines (drop 1 (drop (line_len (b ∷ c ∷ bs)) (b ∷ c ∷ bs)))
    by_byte true e again = rw (e) refl
    by_byte false e again =
        let m = line_len (c ∷ bs) in
        let one : 1 + m ≡ suc m = omega arith in
        let step : lines (b ∷ c ∷ bs) ≡ with_byte b (lines (c ∷ bs)) = rw (e) refl in
        let len : line_len (b ∷ c ∷ bs) ≡ 1 + m = rw (e) refl in
        step ∙ ap (with_byte b) again ∙ rw (len, one) refl

pub split_here : (bs line rest : List ℕ) (n : ℕ) → 0 < length bs → n ≡ line_len bs
    → line ≡ take n bs → rest ≡ drop n bs → lines bs ≡ line ∷ lines (drop 1 rest)
split_here bs line rest n some is_n is_line is_rest =
    line_split bs some ∙ ap (λ (k : ℕ). take k bs ∷ lines (drop 1 (drop k bs))) (sym is_n)
    ∙ ap (λ (l : List ℕ). l ∷ lines (drop 1 (drop n bs))) (sym is_line)
    ∙ ap (λ (l : List ℕ). line ∷ lines (drop 1 l)) (sym is_rest)

pub split_last : (bs line rest : List ℕ) (n : ℕ) → 0 < length bs → n ≡ line_len bs
    → line ≡ take n bs → rest ≡ drop n bs → eqb (length rest) 0 ≡ true
    → lines bs ≡ line ∷ lines rest
split_last bs line rest n some is_n is_line is_rest none =
    let e : rest ≡ [] = nil_from_length rest (eqb-true _ _ none) in
    split_here bs line rest n some is_n is_line is_rest
    ∙ ap (λ (l : List ℕ). line ∷ lines (drop 1 l)) e
    ∙ ap (λ (l : List ℕ). line ∷ lines l) (sym e)

pub split_whole : (bs line rest : List ℕ) (n : ℕ) → 0 < length bs → n ≡ line_len bs
    → line ≡ take n bs → rest ≡ drop n bs
    → lines bs ≡ line ∷ lines (take (length rest - 1) (drop 1 rest))
split_whole bs line rest n some is_n is_line is_rest =
    split_here bs line rest n some is_n is_line is_rest
    ∙ ap (λ (l : List ℕ). line ∷ lines l)
    (sym (take_all (length rest - 1) (drop 1 rest) (omega (arith, length-drop 1 rest))))

-- a blank line is passed over
pub passed : (n : ℕ) (bs line rest : List ℕ) → lines bs ≡ line ∷ lines rest
    → list_all is_blank (content line) ≡ true → written n (lines bs) ≡ written (n + 1) (lines rest)
unfolding written
passed n bs line rest e blank =
    ap (written n) e ∙ ap (λ (b : Bool). cond b (written (n + 1) (lines rest))
    (Line n (list_all is_allowed (content line)) (tokens (content line))
    (written (n + 1) (lines rest)))) blank

-- and another one comes next
pub comes : (n : ℕ) (bs line rest : List ℕ) → lines bs ≡ line ∷ lines rest
    → list_all is_blank (content line) ≡ false
    → written n (lines bs) ≡ Line n (list_all is_allowed (content line)) (tokens (content line))
    (written (n + 1) (lines rest))
unfolding written
comes n bs line rest e blank =
    ap (written n) e ∙ ap (λ (b : Bool). cond b (written (n + 1) (lines rest))
    (Line n (list_all is_allowed (content line)) (tokens (content line))
    (written (n + 1) (lines rest)))) blank

pub over : (n : ℕ) (bs : List ℕ) → eqb (length bs) 0 ≡ true → written n (lines bs) ≡ End n
unfolding written lines
over n bs none = let e : bs ≡ [] = nil_from_length bs (eqb-true _ _ none) in rw e refl
