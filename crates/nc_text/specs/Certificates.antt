-- Reading a certificate text, line after line.
--
-- The lines come in a fixed order: `certificate`, the lines of the setting, `claim`, the lines of
-- the form, `end`. Each definition takes what is written, and gives a value with what is written
-- behind it, or the first fault, which is the number of a line and a kind.
--
-- Form 1 lists the terms of a module element. They are read as the parts of one line, so a text of
-- either form is a certificate by lines, and there is only one notion of validity. Form 2 has a
-- line `line` before the parts of each line.
--
-- The reader accepts blanks, comments, carriage returns, exponents, minus signs, and terms in any
-- order.
use Rattle.nc_algebra.specs.Alphabets.{Alphabet}
use Rattle.nc_algebra.specs.Certificates as certificates
use Rattle.nc_algebra.specs.Certificates.{Certificate, Part, line_reach}
use Rattle.nc_algebra.specs.Polynomials.{Polynomial}
use Rattle.nc_algebra.specs.Settings.{NamedSetting}
use Rattle.nc_tokens.specs.Lines.{End, Line, Row, Written, a_line, at_line, begins, behind, lines, the_end, the_line, written}
use Rattle.nc_tokens.specs.Wanted.{end_at, ◌>>=◌}
use Rattle.nc_tokens.specs.declared.fault.TextFault.{TextFault}
use Rattle.nc_text.specs.Reading.{poly_at}
use Rattle.nc_text.specs.Rows.{form_at, part_at, term_row_at}
use Rattle.nc_text.specs.Settings.{setting_lines}
use Rattle.std.specs.Prelude.{List, None, Ok, Option, Result, Some, [], codes, if◌then◌else◌, length, ℕ, ◌&&◌, ◌++◌, ◌==◌, ◌∷◌}

-- the line `certificate`
unfoldable pub form_line : Written → Result (ℕ × Written) TextFault
form_line w = do
  line ← the_line (codes "certificate") w
  form ← at_line line.number (form_at line.tokens)
  Ok (form, line.after)

-- the line `claim`
unfoldable pub claim_line : ℕ → Alphabet → Written → Result (Polynomial × Written) TextFault
claim_line p a w = do
  line ← the_line (codes "claim") w
  f ← at_line line.number (poly_at p a line.tokens)
  Ok (f, line.after)

-- ---- form 1

-- the lines `term` over so many generators, as parts
unfoldable pub term_lines : ℕ → Alphabet → ℕ → Written → Result (List Part × Written) TextFault
term_lines p a generators (End n) = Ok ([], End n)
term_lines p a generators (Line n clean ts after) = if clean && begins (codes "term") ts
    then (at_line n (term_row_at p a generators (behind ts)) >>= λ first. term_lines p a generators
    after >>= λ others. Ok (first ∷ others.0, others.1))
    else Ok ([], Line n clean ts after)

-- parts as one line, and no line where there is no part
abbrev pub one_line : List Part → List certificates.Line
one_line [] = []
one_line (part ∷ parts) = (part ∷ parts) ∷ []

-- the terms of form 1 as one line
unfoldable pub terms_line : NamedSetting → Written
    → Result (List certificates.Line × Written) TextFault
terms_line s w = do
  parts ← term_lines s.setting.prime s.alphabet (length s.setting.generators) w
  Ok (one_line parts.0, parts.1)

-- ---- form 2

-- the lines `part` and `line`, behind the lines with these reaches and the parts of the line that
-- was begun
unfoldable pub part_lines : NamedSetting → List ℕ → List Part → Written
    → Result (List certificates.Line × Written) TextFault
part_lines s reaches parts (End n) = Ok (parts ∷ [], End n)
part_lines s reaches parts (Line n clean ts after) = if clean && begins (codes "part") ts
    then (at_line n (part_at s reaches (behind ts)) >>= λ part. part_lines s reaches
    (parts ++ part ∷ []) after)
    else (if clean && begins (codes "line") ts
    then (at_line n (end_at (behind ts)) >>= λ _. part_lines s
    (reaches ++ line_reach s.setting reaches parts ∷ []) [] after >>= λ others. Ok
    (parts ∷ others.0, others.1))
    else Ok (parts ∷ [], Line n clean ts after))

-- the first line `line`, if it comes next, and all of its kind
abbrev pub line_lines_in : NamedSetting → Written → Option Row
    → Result (List certificates.Line × Written) TextFault
line_lines_in s w None = Ok ([], w)
line_lines_in s w (Some line) =
    at_line line.number (end_at line.tokens) >>= λ _. part_lines s [] [] line.after

-- the lines `line` with the lines `part` behind each
unfoldable pub line_lines : NamedSetting → Written
    → Result (List certificates.Line × Written) TextFault
line_lines s w = line_lines_in s w (a_line (codes "line") w)

-- ---- the whole

-- the lines of a certificate in its form
abbrev pub body_lines : ℕ → NamedSetting → Written
    → Result (List certificates.Line × Written) TextFault
body_lines form s w = if form == 1 then terms_line s w else line_lines s w

-- the line `end`, with nothing behind its keyword, and no line after it
unfoldable pub end_line : Written → Result (Unit {0}) TextFault
end_line w = do
  line ← the_line (codes "end") w
  _ ← at_line line.number (end_at line.tokens)
  the_end line.after

-- all lines of a certificate
unfoldable pub certificate_at : Written → Result Certificate TextFault
certificate_at w = do
  form ← form_line w
  setting ← setting_lines form.1
  claim ← claim_line setting.0.setting.prime setting.0.alphabet setting.1
  body ← body_lines form.0 setting.0 claim.1
  _ ← end_line body.1
  Ok (record { setting = setting.0; claim = claim.0; lines = body.0 })

-- the certificate that a text is, or its first fault
abbrev pub reads_certificate : List ℕ → Result Certificate TextFault
reads_certificate bytes = certificate_at (written 1 (lines bytes))
