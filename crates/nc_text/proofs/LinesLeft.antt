-- How many lines are left behind those that were read.
-- A certificate of the program has at most 4,000,000,000 lines, and pushing one line more needs
-- that. A text has no more lines than bytes (`text_left`), and reading never leaves more lines than
-- there were; so behind the claim there are at most as many as the text has bytes (`claimed_left`),
-- and these are at most 16,777,216.
use Rattle.nc_algebra.specs.Alphabets.{Alphabet}
use Rattle.nc_algebra.specs.Polynomials.{Polynomial}
use Rattle.nc_algebra.specs.Settings.{NamedSetting}
use Rattle.nc_text.specs.Certificates.{claim_line, form_line}
use Rattle.nc_text.specs.Reading.{poly_at}
use Rattle.nc_text.specs.Rows.{field_at, form_at, generator_at, letters_at, weights_at}
use Rattle.nc_text.specs.Settings.{alphabet_lines, field_line, generator_lines, letters_line, setting_lines, weights_in, weights_line}
use Rattle.nc_tokens.proofs.Repeated.{fewer}
use Rattle.nc_tokens.proofs.Steps.{on_any, on_bind, on_choice}
use Rattle.nc_tokens.specs.Lines.{End, Line, Row, Written, a_line, at_line, begins, behind, content, is_allowed, lines, lines_left, the_line, with_byte, written}
use Rattle.nc_tokens.specs.Tokens.{is_blank, tokens}
use Rattle.nc_tokens.specs.Wanted.{◌>>=◌}
use Rattle.nc_tokens.specs.declared.fault.TextFault.{TextFault}
use Rattle.std.proofs.Common.{Bool, IfOk, List, None, Ok, Option, Result, Some, [], arith, codes, eqb, false, if◌then◌else◌, length, refl, subst, true, ℕ, ◌&&◌, ◌+◌, ◌-◌, ◌∷◌, ◌≡◌, ◌≤◌}
use Rattle.std.specs.List.{list_all}

-- ---- a text has no more lines than bytes

written_left : (n : ℕ) (ls : List (List ℕ)) → lines_left (written n ls) ≤ length ls
unfolding written
written_left n [] = omega arith
written_left n (line ∷ ls) = by_blank (list_all is_blank (content line)) (written_left (n + 1) ls)
  where
    by_blank : (b : Bool) → lines_left (written (n + 1) ls) ≤ length ls
        → lines_left (if b then written (n + 1) ls else Line n (list_all is_allowed (content line))
        (tokens (content line)) (written (n + 1) ls)) ≤ length (line ∷ ls)
    by_blank true h = omega (arith, h)
    by_blank false h = omega (arith, h)

with_byte_few : (b : ℕ) (ls : List (List ℕ)) (n : ℕ) → length ls ≤ n
    → length (with_byte b ls) ≤ n + 1
with_byte_few b [] n h = omega arith
with_byte_few b (line ∷ ls) n h = omega (arith, h)

lines_few : (bytes : List ℕ) → length (lines bytes) ≤ length bytes
unfolding lines
lines_few [] = omega arith
lines_few (b ∷ bytes) = by_feed (eqb b 10) (lines_few bytes)
  where
    by_feed : (feed : Bool) → length (lines bytes) ≤ length bytes
        → length (if feed then [] ∷ lines bytes else with_byte b (lines bytes)) ≤ length (b ∷ bytes)
    by_feed true h = omega (arith, h)
    by_feed false h = omega (arith, with_byte_few b (lines bytes) (length bytes) h)

pub text_left : (n : ℕ) (bytes : List ℕ) → lines_left (written n (lines bytes)) ≤ length bytes
text_left n bytes = omega (arith, written_left n (lines bytes), lines_few bytes)

-- ---- lines that were read

-- no more lines are left than there were
abbrev Leaves : {A : Type 0} → Written → A × Written → Type 0
Leaves w x = lines_left x.1 ≤ lines_left w

the_line_leaves : (keyword : List ℕ) (w : Written)
    → IfOk (the_line keyword w) (λ r. lines_left r.after ≤ lines_left w)
unfolding the_line
the_line_leaves keyword (End n) = tt
the_line_leaves keyword (Line n false ts after) = tt
the_line_leaves keyword (Line n true ts after) =
    on_choice _ (begins keyword ts) _ _ (λ yes. omega arith) (λ no. tt)

-- a line with a keyword, of which something is read
keyword_leaves : {A : Type 0} (keyword : List ℕ) (w : Written) (read : Row → Result A TextFault)
    → IfOk (the_line keyword w >>= λ line. read line >>= λ x. Ok (x, line.after)) (Leaves w)
keyword_leaves keyword w read =
    on_bind _ _ (the_line keyword w) _ (the_line_leaves keyword w)
    (λ line h. on_bind _ _ (read line) _ (on_any (read line)) (λ x _. h))

form_leaves : (w : Written) → IfOk (form_line w) (Leaves w)
unfolding form_line
form_leaves w =
    keyword_leaves (codes "certificate") w (λ line. at_line line.number (form_at line.tokens))

field_leaves : (w : Written) → IfOk (field_line w) (Leaves w)
unfolding field_line
field_leaves w =
    keyword_leaves (codes "field") w (λ line. at_line line.number (field_at line.tokens))

letters_leave : (w : Written) → IfOk (letters_line w) (Leaves w)
unfolding letters_line
letters_leave w =
    keyword_leaves (codes "letters") w (λ line. at_line line.number (letters_at [] line.tokens))

weights_in_leave : (letters : ℕ) (w : Written) (o : Option Row)
    → ((r : Row) → o ≡ Some r → lines_left r.after ≤ lines_left w)
    → IfOk (weights_in letters w o) (Leaves w)
weights_in_leave letters w None h = omega arith
weights_in_leave letters w (Some line) h =
    on_bind _ _ (at_line line.number (weights_at letters line.tokens)) _
    (on_any (at_line line.number (weights_at letters line.tokens))) (λ weights _. h line refl)

weights_leave : (letters : ℕ) (w : Written) → IfOk (weights_line letters w) (Leaves w)
unfolding weights_line
weights_leave letters w =
    weights_in_leave letters w (a_line (codes "weights") w)
    (λ r e. omega (arith, fewer (codes "weights") w r e))

alphabet_leaves : (w : Written) → IfOk (alphabet_lines w) (Leaves w)
unfolding alphabet_lines
alphabet_leaves w =
    on_bind _ _ (letters_line w) _ (letters_leave w)
    (λ names h. on_bind _ _ (weights_line (length names.0) names.1) _
    (weights_leave (length names.0) names.1) (λ weights k. omega (arith, h, k)))

generators_leave : (p : ℕ) (a : Alphabet) (room : ℕ) (w : Written)
    → IfOk (generator_lines p a room w) (Leaves w)
unfolding generator_lines
generators_leave p a room (End n) = omega arith
generators_leave p a room (Line n clean ts after) =
    on_choice _ (clean && begins (codes "generator") ts) _ _
    (λ begun. on_bind _ _ (at_line n (generator_at p a room (behind ts))) _
    (on_any (at_line n (generator_at p a room (behind ts)))) (λ first _.
    on_bind _ _ (generator_lines p a (room - 1) after) _ (generators_leave p a (room - 1) after)
    (λ others h. omega (arith, h))))
    (λ other. omega arith)

setting_leaves : (w : Written) → IfOk (setting_lines w) (Leaves w)
unfolding setting_lines
setting_leaves w =
    on_bind _ _ (field_line w) _ (field_leaves w)
    (λ field f. on_bind _ _ (alphabet_lines field.1) _ (alphabet_leaves field.1) (λ alphabet g.
    on_bind _ _ (generator_lines field.0 alphabet.0 1000 alphabet.1) _
    (generators_leave field.0 alphabet.0 1000 alphabet.1)
    (λ generators h. omega (arith, f, g, h))))

claim_leaves : (p : ℕ) (a : Alphabet) (w : Written) → IfOk (claim_line p a w) (Leaves w)
unfolding claim_line
claim_leaves p a w =
    keyword_leaves (codes "claim") w (λ line. at_line line.number (poly_at p a line.tokens))

left_by : {A E : Type 0} (w : Written) (r : Result (A × Written) E) (x : A) (rest : Written)
    → r ≡ Ok (x, rest) → IfOk r (Leaves w) → lines_left rest ≤ lines_left w
left_by w r x rest e h = subst (λ r. IfOk r (Leaves w)) e h

-- ---- what is left of a certificate behind its claim

pub claimed_left : (w one two three : Written) (form : ℕ) (s : NamedSetting) (claim : Polynomial)
    → form_line w ≡ Ok (form, one) → setting_lines one ≡ Ok (s, two)
    → claim_line s.setting.prime s.alphabet two ≡ Ok (claim, three)
    → lines_left three ≤ lines_left w
claimed_left w one two three form s claim a b c =
    omega (
      arith,
      left_by w (form_line w) form one a (form_leaves w),
      left_by one (setting_lines one) s two b (setting_leaves one),
      left_by two (claim_line s.setting.prime s.alphabet two) claim three c
          (claim_leaves s.setting.prime s.alphabet two),
    )
