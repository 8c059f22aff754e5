-- The values of lines as they are kept: in normal form, each made once. They are the normal forms
-- of the values that the definition gives (`value_step`), and each line is ready over those before
-- it (`ready_at`).
use Rattle.nc_algebra.proofs.NormalForms.{normal_form_equal}
use Rattle.nc_algebra.specs.Certificates.{AreLines, Line, line_value, values_of}
use Rattle.nc_algebra.specs.Polynomials.{Polynomial, normal_form}
use Rattle.nc_algebra.specs.Settings.{IsSetting, NamedSetting}
use Rattle.nc_algebra.specs.Sums.{minus}
use Rattle.nc_cert.proofs.Fits.{lines_fit}
use Rattle.nc_cert.proofs.Lines.{line_behind, lines_before, reaches_after, values_after-push}
use Rattle.nc_cert.proofs.Readiness.{above_one, line_ready, same_line}
use Rattle.nc_cert.specs.Ready.{IsReadyPart}
use Rattle.std.proofs.Common.{List, [], ap, arith, drop, get_or, length, map, subst, suc, sym, take, ℕ, ◌%◌, ◌+◌, ◌++◌, ◌-◌, ◌<◌, ◌∙◌, ◌∷◌, ◌≡◌}
use Rattle.std.proofs.lemmas.List.{map-append, take-append-drop, take_more}
use Rattle.std.proofs.Math.Seq.{drop-cons}
use Rattle.std.specs.List.{All}
use Rattle.nc_cert.proofs.Differences.{negative_back}

module _ (s : NamedSetting) (is : IsSetting s) where
  -- the normal forms of the values
  abbrev pub normals : List Line → List Polynomial
  normals lines = map (normal_form s.setting.prime) (values_of s.setting lines)

  -- the line behind others is ready over their values
  pub ready_behind : (lines : List Line) (line : Line) (more : List Line)
      → AreLines s [] (lines ++ line ∷ more) → All (IsReadyPart s.setting (normals lines)) line
  ready_behind lines line more h =
      line_ready s is (values_of s.setting lines) (reaches_after s.setting [] lines) line
      (lines_fit s is [] [] lines tt (lines_before s [] lines (line ∷ more) h))
      (line_behind s [] lines line more h)

  -- the normal form of a line's value, computed over those before it
  value_behind : (lines : List Line) (line : Line)
      → normal_form s.setting.prime (minus s.setting.prime []
      ((s.setting.prime - 1) % s.setting.prime) (line_value s.setting (normals lines) line))
      ≡ normal_form s.setting.prime (line_value s.setting (values_of s.setting lines) line)
  value_behind lines line =
      negative_back s.setting.prime (line_value s.setting (normals lines) line) (above_one s is)
      ∙ normal_form_equal s.setting.prime (line_value s.setting (normals lines) line)
      (line_value s.setting (values_of s.setting lines) line) (omega (arith, above_one s is))
      (same_line s.setting (omega (arith, above_one s is)) (values_of s.setting lines) line)

  pub split : (lines : List Line) (i : ℕ) (line : Line) → i < length lines
      → line ≡ get_or lines i line → lines ≡ take i lines ++ line ∷ drop (suc i) lines
  split lines i line within at =
      sym (take-append-drop i lines) ∙ ap (λ (l : List Line). take i lines ++ l)
      (drop-cons lines i line within ∙ ap (λ (l : Line). l ∷ drop (suc i) lines) (sym at))

  -- the line at a place is ready
  pub ready_at : (lines : List Line) (i : ℕ) (line : Line) → i < length lines
      → line ≡ get_or lines i line → AreLines s [] lines
      → All (IsReadyPart s.setting (normals (take i lines))) line
  ready_at lines i line within at h =
      ready_behind (take i lines) line (drop (suc i) lines)
      (subst (AreLines s []) (split lines i line within at) h)

  -- one value more
  pub value_step : (lines : List Line) (i : ℕ) (line : Line) (value : Polynomial) → i < length lines
      → line ≡ get_or lines i line →
      value ≡ normal_form s.setting.prime
      (minus s.setting.prime [] ((s.setting.prime - 1) % s.setting.prime)
      (line_value s.setting (normals (take i lines)) line)) →
      normals (take i lines) ++ value ∷ [] ≡ normals (take (i + 1) lines)
  value_step lines i line value within at e =
      ap (λ (f : Polynomial). normals (take i lines) ++ f ∷ [])
      (e ∙ value_behind (take i lines) line)
      ∙ (sym (map-append (normal_form s.setting.prime) (values_of s.setting (take i lines))
      (line_value s.setting (values_of s.setting (take i lines)) line ∷ []))
      ∙ ap (map (normal_form s.setting.prime))
      (sym (values_after-push s.setting [] (take i lines) line)
      ∙ ap (values_of s.setting) (sym (take_more lines i line within
      ∙ ap (λ (l : Line). take i lines ++ l ∷ []) (sym at)))))
