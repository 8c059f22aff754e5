-- The rest: the claim minus the value of the last line.
-- It is computed over the values that are kept (`rest_of_lines`), and is the claim where there is
-- no line (`rest_of_claim`). Nothing is left exactly of a valid certificate (`valid_from_nothing`,
-- `nothing_from_valid`).
use Rattle.nc_algebra.proofs.Certificates.{valid_by_rest}
use Rattle.nc_algebra.proofs.NormalForms.{normal_form-normal, normal_form_equal}
use Rattle.nc_algebra.specs.Certificates.{Certificate, IsCertificate, IsValid, Line, line_value, lines_value, rest_of, values_of}
use Rattle.nc_algebra.specs.Polynomials.{IsNormal, Polynomial, coefficient, normal_form}
use Rattle.nc_algebra.specs.Settings.{IsSetting, NamedSetting}
use Rattle.nc_algebra.specs.Sums.{minus}
use Rattle.nc_cert.proofs.Lines.{last_value}
use Rattle.nc_cert.proofs.Readiness.{above_one, same_line}
use Rattle.std.proofs.Common.{List, [], ap, arith, sym, ℕ, ◌%◌, ◌*◌, ◌+◌, ◌++◌, ◌-◌, ◌<◌, ◌∙◌, ◌∷◌, ◌≡◌}
use Rattle.nc_cert.proofs.Differences.{difference_same, minus_at}
use Rattle.nc_cert.proofs.Values.{normals}

module _ (s : NamedSetting) (is : IsSetting s) where
  -- without a line the rest is the claim
  pub rest_of_claim : (claim : Polynomial) → IsNormal s.setting.prime claim
      → claim ≡ rest_of s.setting claim []
  rest_of_claim claim h =
      sym (normal_form_equal s.setting.prime
      (minus s.setting.prime claim 1 (lines_value s.setting [])) claim some record {
        at = λ x. ap (λ n. n % s.setting.prime) (minus_at s.setting.prime claim 1 [] x
            ∙ none (coefficient claim x) ((s.setting.prime - 1) * 1));
      }
      ∙ normal_form-normal s.setting.prime claim some h)
    where
      some : 0 < s.setting.prime
      some = omega (arith, above_one s is)

      none : (a q : ℕ) → a + q * 0 ≡ a
      none a q = omega arith

  -- and else the claim minus the last line, over the values before it
  pub rest_of_lines : (claim : Polynomial) (lines : List Line) (last : Line)
      → normal_form s.setting.prime (minus s.setting.prime claim 1
      (line_value s.setting (normals s is lines) last)) ≡ rest_of s.setting claim
      (lines ++ last ∷ [])
  rest_of_lines claim lines last =
      difference_same s.setting.prime claim 1 (line_value s.setting (normals s is lines) last)
      (line_value s.setting (values_of s.setting lines) last) (omega (arith, above_one s is))
      (same_line s.setting (omega (arith, above_one s is)) (values_of s.setting lines) last)
      ∙ ap (λ (f : Polynomial). normal_form s.setting.prime (minus s.setting.prime claim 1 f))
      (sym (last_value s.setting lines last))

-- ---- nothing is left exactly of a valid certificate

pub valid_from_nothing : (c : Certificate) (rest : Polynomial) → IsCertificate c
    → rest ≡ rest_of c.setting.setting c.claim c.lines → rest ≡ []
    → IsValid c.setting.setting c.claim c.lines
valid_from_nothing c rest h e none =
    (valid_by_rest c.setting.setting c.claim c.lines
    (omega (arith, above_one c.setting h.setting))).1 (sym e ∙ none)

pub nothing_from_valid : (c : Certificate) (rest : Polynomial) → IsCertificate c
    → rest ≡ rest_of c.setting.setting c.claim c.lines → IsValid c.setting.setting c.claim c.lines
    → rest ≡ []
nothing_from_valid c rest h e valid =
    e ∙ (valid_by_rest c.setting.setting c.claim c.lines
    (omega (arith, above_one c.setting h.setting))).0 valid
