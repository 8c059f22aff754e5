-- Lines `term`, and the certificate that is read.
-- The lines are read by the lemmas of `Repeated.antt` in `nc_tokens` (`are_lines`). What is read
-- keeps the rule of certificates (`is_certificate`).
use Rattle.nc_algebra.specs.Alphabets.{Alphabet}
use Rattle.nc_algebra.specs.Certificates as certificates
use Rattle.nc_algebra.specs.Certificates.{Certificate, IsCertificate, IsTextCertificate, Part}
use Rattle.nc_algebra.specs.Polynomials.{Polynomial}
use Rattle.nc_algebra.specs.Settings.{NamedSetting}
use Rattle.nc_text.proofs.ReadCertificates.{certificate_reads}
use Rattle.nc_tokens.proofs.Repeated.{AreLines, Read, line_then, passed_by, taken}
use Rattle.nc_text.specs.Certificates.{body_lines, certificate_at, claim_line, end_line, form_line, term_lines}
use Rattle.nc_tokens.specs.Lines.{End, Line, Row, Written, a_line}
use Rattle.nc_text.specs.Rows.{term_row_at}
use Rattle.nc_text.specs.Settings.{setting_lines}
use Rattle.nc_tokens.specs.declared.fault.TextFault.{TextFault}
use Rattle.std.proofs.Common.{IfOk, List, None, Ok, Result, Some, [], codes, refl, subst, ℕ, ◌≡◌}

one_more : (p : ℕ) (a : Alphabet) (generators room : ℕ) (w : Written) (r : Row)
    → a_line (codes "term") w ≡ Some r
    → term_lines p a generators w ≡ line_then r (term_row_at p a generators r.tokens)
    (term_lines p a generators r.after)
unfolding a_line term_lines
one_more p a generators room (End n) r e = absurd cc
one_more p a generators room (Line n clean ts after) r e =
    taken (codes "term") n clean ts after r
    (λ r. line_then r (term_row_at p a generators r.tokens) (term_lines p a generators r.after))
    (Ok ([], Line n clean ts after)) e

no_more : (p : ℕ) (a : Alphabet) (generators room : ℕ) (w : Written)
    → a_line (codes "term") w ≡ None → term_lines p a generators w ≡ Ok ([], w)
unfolding a_line term_lines
no_more p a generators room (End n) e = refl
no_more p a generators room (Line n clean ts after) e =
    passed_by (codes "term") n clean ts after _ (Ok ([], Line n clean ts after)) e

-- so many as there are: nothing is counted
abbrev pub all_terms : ℕ → Alphabet → ℕ → ℕ → Written → Read Part
all_terms p a generators room w = term_lines p a generators w

pub are_lines : (p : ℕ) (a : Alphabet) (generators : ℕ)
    → AreLines (codes "term") (λ room. term_row_at p a generators) (all_terms p a generators)
are_lines p a generators = record { more = one_more p a generators; none = no_more p a generators }

module _ (w one two three four : Written) (form : ℕ) (s : NamedSetting) (claim : Polynomial)
    (lines : List certificates.Line) where
  pub certificate_is : form_line w ≡ Ok (form, one) → setting_lines one ≡ Ok (s, two)
      → claim_line s.setting.prime s.alphabet two ≡ Ok (claim, three)
      → body_lines form s three ≡ Ok (lines, four)
      → end_line four ≡ Ok tt → certificate_at w
      ≡ Ok (record { setting = s; claim = claim; lines = lines })
  unfolding certificate_at
  certificate_is a b c d e = rw a (rw b (rw c (rw d (rw e refl))))

  -- what the lines give is a certificate
  pub is_certificate : form_line w ≡ Ok (form, one) → setting_lines one ≡ Ok (s, two)
      → claim_line s.setting.prime s.alphabet two ≡ Ok (claim, three)
      → body_lines form s three ≡ Ok (lines, four)
      → end_line four ≡ Ok tt → IsCertificate (record { setting = s; claim = claim; lines = lines })
  is_certificate a b c d e =
      by_text (subst (λ (r : Result Certificate TextFault). IfOk r IsTextCertificate)
      (certificate_is a b c d e) (certificate_reads w))
    where
      by_text : IsTextCertificate (record { setting = s; claim = claim; lines = lines })
          → IsCertificate (record { setting = s; claim = claim; lines = lines })
      by_text h = h.certificate
