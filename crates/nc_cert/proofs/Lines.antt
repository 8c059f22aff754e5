-- Values and reaches of lines, where one line more comes.
-- `values_after-push` and `last_value` are for values; `line_behind` is what the rule of
-- certificates says of a line behind others.
use Rattle.nc_algebra.specs.Certificates.{AreLines, IsPart, Line, line_reach, line_value, lines_value, item, values_after, values_of}
use Rattle.nc_algebra.specs.Elements.{Setting}
use Rattle.nc_algebra.specs.Polynomials.{Polynomial}
use Rattle.nc_algebra.specs.Settings.{NamedSetting}
use Rattle.std.proofs.Common.{List, [], ap, arith, get_or, length, refl, suc, ℕ, ◌++◌, ◌+◌, ◌∙◌, ◌∷◌, ◌≡◌}
use Rattle.std.proofs.Math.Seq.{get_or-append_seam}
use Rattle.std.proofs.lemmas.List.{length_push}
use Rattle.std.specs.List.{All}

-- the reaches so far, and then those of the lines
unfoldable pub reaches_after : Setting → List ℕ → List Line → List ℕ
reaches_after s reaches [] = reaches
reaches_after s reaches (line ∷ lines) =
    reaches_after s (reaches ++ line_reach s reaches line ∷ []) lines

module _ (s : Setting) where
  pub values_after-push : (values : List Polynomial) (lines : List Line) (line : Line)
      → values_after s values (lines ++ line ∷ []) ≡ values_after s values lines ++ line_value s
      (values_after s values lines) line ∷ []
  unfolding values_after
  values_after-push values [] line = refl
  values_after-push values (first ∷ lines) line =
      values_after-push (values ++ line_value s values first ∷ []) lines line

  pub length-values_after : (values : List Polynomial) (lines : List Line)
      → length (values_after s values lines) ≡ length values + length lines
  unfolding values_after
  length-values_after values [] = omega arith
  length-values_after values (line ∷ lines) =
      omega (
        arith,
        length-values_after (values ++ line_value s values line ∷ []) lines,
        length_push values (line_value s values line),
      )

  -- the value of the last line, over those before it
  pub last_value : (lines : List Line) (line : Line)
      → lines_value s (lines ++ line ∷ []) ≡ line_value s (values_of s lines) line
  last_value lines line =
      let value : Polynomial = line_value s (values_of s lines) line in
      let many : length (lines ++ line ∷ []) ≡ suc (length (values_of s lines)) =
      omega (arith, length_push lines line, length-values_after [] lines) in
      ap (item [] (values_of s (lines ++ line ∷ []))) many
      ∙ (ap (λ (values : List Polynomial). get_or values (length (values_of s lines)) [])
      (values_after-push [] lines line)
      ∙ get_or-append_seam (values_of s lines) value [] [])

module _ (s : NamedSetting) where
  -- what the rule says of a line behind others
  pub line_behind : (reaches : List ℕ) (lines : List Line) (line : Line) (more : List Line)
      → AreLines s reaches (lines ++ line ∷ more)
      → All (IsPart s (reaches_after s.setting reaches lines)) line
  unfolding reaches_after
  line_behind reaches [] line more a = a.0
  line_behind reaches (first ∷ lines) line more a =
      line_behind (reaches ++ line_reach s.setting reaches first ∷ []) lines line more a.1

  -- and of the lines before
  pub lines_before : (reaches : List ℕ) (lines more : List Line)
      → AreLines s reaches (lines ++ more) → AreLines s reaches lines
  lines_before reaches [] more a = tt
  lines_before reaches (line ∷ lines) more a =
      (a.0, lines_before (reaches ++ line_reach s.setting reaches line ∷ []) lines more a.1)
