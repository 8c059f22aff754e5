-- The lines `field`, `letters`, `weights` and `generator`, which give the setting of a text.
--
-- They come in this order. Without a line `weights`, each letter weighs 1. There may be no line
-- `generator`, and the first other line ends them; in each definition that looks for such a line,
-- bytes that are not allowed count as another line.
use Rattle.nc_algebra.specs.Alphabets.{Alphabet}
use Rattle.nc_algebra.specs.Polynomials.{Polynomial}
use Rattle.nc_algebra.specs.Settings.{NamedSetting}
use Rattle.nc_tokens.specs.Lines.{End, Line, Row, Written, a_line, at_line, begins, behind, the_line}
use Rattle.nc_tokens.specs.Wanted.{◌>>=◌}
use Rattle.nc_tokens.specs.declared.fault.TextFault.{TextFault}
use Rattle.nc_text.specs.Rows.{field_at, generator_at, letters_at, weights_at}
use Rattle.std.specs.Prelude.{List, None, Ok, Option, Result, Some, [], codes, if◌then◌else◌, length, replicate, ℕ, ◌&&◌, ◌-◌, ◌∷◌}

-- the line `field`
unfoldable pub field_line : Written → Result (ℕ × Written) TextFault
field_line w = do
  line ← the_line (codes "field") w
  p ← at_line line.number (field_at line.tokens)
  Ok (p, line.after)

-- the line `letters`
unfoldable pub letters_line : Written → Result (List (List ℕ) × Written) TextFault
letters_line w = do
  line ← the_line (codes "letters") w
  names ← at_line line.number (letters_at [] line.tokens)
  Ok (names, line.after)

-- the line `weights` of so many letters, if it comes next; else each letter weighs 1
abbrev pub weights_in : ℕ → Written → Option Row → Result (List ℕ × Written) TextFault
weights_in letters w None = Ok (replicate letters 1, w)
weights_in letters w (Some line) =
    at_line line.number (weights_at letters line.tokens) >>= λ weights. Ok (weights, line.after)

-- the line `weights` of so many letters, where it may come next
unfoldable pub weights_line : ℕ → Written → Result (List ℕ × Written) TextFault
weights_line letters w = weights_in letters w (a_line (codes "weights") w)

-- the lines `letters` and `weights`
unfoldable pub alphabet_lines : Written → Result (Alphabet × Written) TextFault
alphabet_lines w = do
  names ← letters_line w
  weights ← weights_line (length names.0) names.1
  Ok (record { names = names.0; weights = weights.0 }, weights.1)

-- the lines `generator`, of which so many may still come
unfoldable pub generator_lines : ℕ → Alphabet → ℕ → Written
    → Result (List Polynomial × Written) TextFault
generator_lines p a room (End n) = Ok ([], End n)
generator_lines p a room (Line n clean ts after) = if clean && begins (codes "generator") ts
    then (at_line n (generator_at p a room (behind ts)) >>= λ first. generator_lines p a (room - 1)
    after >>= λ others. Ok (first ∷ others.0, others.1))
    else Ok ([], Line n clean ts after)

-- the lines `field`, `letters`, `weights` and `generator`
unfoldable pub setting_lines : Written → Result (NamedSetting × Written) TextFault
setting_lines w = do
  field ← field_line w
  alphabet ← alphabet_lines field.1
  generators ← generator_lines field.0 alphabet.0 1000 alphabet.1
  Ok (
    record {
      alphabet = alphabet.0;
      setting = record { prime = field.0; generators = generators.0 };
    },
    generators.1,
  )
