-- What is printed of a certificate is read again.
-- `certificate_again` and `terms_again` read the lines of the two forms, and `all_are_printed` says
-- that they are printed lines. Reading is a function, so two certificates with the same text are
-- equal (`one_certificate`).
use Rattle.nc_algebra.specs.Certificates as certificates
use Rattle.nc_algebra.specs.Certificates.{Certificate, HasTextWords, IsTextCertificate, element_lines}
use Rattle.nc_algebra.specs.Elements.{Element}
use Rattle.nc_algebra.specs.Polynomials.{Polynomial}
use Rattle.nc_algebra.specs.Settings.{IsSetting, NamedSetting}
use Rattle.nc_print.specs.Printing as printing
use Rattle.nc_print.specs.Printing.{certificate_lines, certificate_text, term_line, terms_lines, terms_text}
use Rattle.nc_text.proofs.PrintedLines.{all_printed, lines_ended}
use Rattle.nc_text.proofs.RoundTripLines.{AreRead, are_read, are_terms, end_is, line_lines_again, lines_printed, printed, terms_line_again, terms_printed, the_last}
use Rattle.nc_text.proofs.RoundTripSettings.{IsText, claim_again, claim_is, claim_text, setting_again, setting_printed}
use Rattle.nc_text.proofs.Terms.{certificate_is}
use Rattle.nc_text.specs.Certificates.{body_lines, certificate_at, end_line, form_line, reads_certificate}
use Rattle.nc_text.specs.Laws.{OneCertificate, ReadsTerms, ReadsWhatIsPrinted}
use Rattle.nc_text.specs.Rows.{form_at}
use Rattle.nc_tokens.proofs.KeywordLines.{IsLineOf, spaced_line, taken}
use Rattle.nc_tokens.proofs.PlainBytes.{ArePlain}
use Rattle.nc_tokens.proofs.PlainLines.{IsPrintedLine}
use Rattle.nc_tokens.proofs.PrintedTokens.{nothing}
use Rattle.nc_tokens.specs.Lines.{the_end, written}
use Rattle.nc_tokens.specs.Tokens.{pieces, tokens}
use Rattle.nc_tokens.specs.Wanted.{end_at, literal_at}
use Rattle.nc_tokens.specs.declared.fault.TextFault.{TextFault}
use Rattle.std.proofs.Common.{All, List, Ok, Result, [], ap, arith, codes, length, map, refl, sym, ℕ, ◌++◌, ◌+◌, ◌∙◌, ◌∷◌, ◌≡◌, ◌≤◌}
use Rattle.std.proofs.lemmas.List.Elements.{recursion_from_All}
use Rattle.std.proofs.lemmas.List.{length-map}
use Rattle.std.specs.List.{AllByRecursion}

-- ---- the lines `certificate` and `end`

-- the line of a form, and what is read of it
record IsFormLine (form : ℕ) (text line : List ℕ) : Type 0 where
  is : IsLineOf (codes "certificate") (tokens text) line
  reads : form_at (tokens text) ≡ Ok form

form_is : (text : List ℕ) → ArePlain text
    → IsLineOf (codes "certificate") (tokens text) (codes "certificate" ++ 32 ∷ text)
form_is text plain =
    spaced_line (codes "certificate") text (record { name = refl; begun = λ rest. refl }) plain

forms_are : IsFormLine 1 (codes "1") (codes "certificate 1")
    × IsFormLine 2 (codes "2") (codes "certificate 2")
unfolding tokens pieces form_at literal_at end_at
forms_are = (
  record { is = form_is (codes "1") refl; reads = refl },
  record { is = form_is (codes "2") refl; reads = refl },
)

form_again : {form : ℕ} {text line : List ℕ} → IsFormLine form text line → (n : ℕ)
    (ls : List (List ℕ)) → form_line (written n (line ∷ ls)) ≡ Ok (form, written (n + 1) ls)
unfolding form_line
form_again {form} {text} {line} h n ls =
    rw (taken (codes "certificate") line (tokens text) n ls h.is, h.reads) refl

end_again : (n : ℕ) → end_line (written n the_last) ≡ Ok tt
unfolding end_line end_at written the_end
end_again n = rw (taken (codes "end") (codes "end") (tokens []) n [] end_is, nothing) refl

-- ---- all lines

module _ (s : NamedSetting) (is : IsSetting s) (claim : Polynomial) (text : IsText s is claim) where
  -- the lines behind the line `certificate`, with these behind the claim
  abbrev with_body : List (List ℕ) → List (List ℕ)
  with_body body = printing.printed_setting s ++ claim_text s is claim ∷ (body ++ the_last)

  -- a form that is read, and lines behind the claim
  again : (form : ℕ) (first : List ℕ) (body : List (List ℕ)) (lines : List certificates.Line)
      → ((n : ℕ) (ls : List (List ℕ))
      → form_line (written n (first ∷ ls)) ≡ Ok (form, written (n + 1) ls))
      → ((n : ℕ) → body_lines form s (written n (body ++ the_last))
      ≡ Ok (lines, written (n + length body) the_last))
      → certificate_at (written 1 (first ∷ with_body body))
      ≡ Ok (record { setting = s; claim = claim; lines = lines })
  again form first body lines form_again body_again =
      let m = 1 + 1 + 1 + length (printing.printed_alphabet s.alphabet)
      + length s.setting.generators in
      certificate_is (written 1 (first ∷ with_body body)) (written (1 + 1) (with_body body))
      (written m (claim_text s is claim ∷ (body ++ the_last)))
      (written (m + 1) (body ++ the_last)) (written (m + 1 + length body) the_last) form s claim
      lines
      (form_again 1 (with_body body)) (setting_again s is (1 + 1) claim (body ++ the_last) text)
      (claim_again s is m claim (body ++ the_last) text) (body_again (m + 1))
      (end_again (m + 1 + length body))

  all_are_printed : (body : List (List ℕ)) → AllByRecursion IsPrintedLine body
      → AllByRecursion IsPrintedLine (with_body body)
  all_are_printed body h =
      all_printed (printing.printed_setting s) (claim_text s is claim ∷ (body ++ the_last))
      (setting_printed s is) (
        (claim_is s is claim text).printed,
        all_printed body the_last h (end_is.printed, tt),
      )

  pub certificate_again : (lines : List certificates.Line) → length lines ≤ 4000000000
      → AreRead s is [] lines
      → reads_certificate (certificate_text (record { setting = s; claim = claim; lines = lines }))
      ≡ Ok (record { setting = s; claim = claim; lines = lines })
  certificate_again lines few all =
      let body = printed s is lines in
      ap (λ (ls : List (List ℕ)). certificate_at (written 1 ls))
      (lines_ended (codes "certificate 2" ∷ with_body body) (
        forms_are.1.is.printed,
        all_are_printed body (lines_printed s is [] lines (omega arith) all),
      ))
      ∙ again 2 (codes "certificate 2") body lines (form_again forms_are.1)
      (λ n. line_lines_again s is n lines few all)

  pub terms_again : (α : Element) → AreRead s is [] (element_lines α)
      → reads_certificate (terms_text s claim α)
      ≡ Ok (record { setting = s; claim = claim; lines = element_lines α })
  terms_again α all =
      let body = map (term_line s.alphabet.names) α in
      let terms = are_terms s is α all in
      ap (λ (ls : List (List ℕ)). certificate_at (written 1 ls))
      (lines_ended (codes "certificate 1" ∷ with_body body) (
        forms_are.0.is.printed,
        all_are_printed body (terms_printed s is α terms),
      ))
      ∙ again 1 (codes "certificate 1") body (element_lines α) (form_again forms_are.0) body_counted
    where
      body_counted : (n : ℕ) → body_lines 1 s
          (written n (map (term_line s.alphabet.names) α ++ the_last)) ≡ Ok (
            element_lines α,
            written (n + length (map (term_line s.alphabet.names) α)) the_last,
          )
      body_counted n =
          terms_line_again s is n α (are_terms s is α all)
          ∙ ap (λ (m : ℕ). Ok (element_lines α, written (n + m) the_last))
          (sym (length-map α (term_line s.alphabet.names)))

lines_are : (c : Certificate) (h : IsTextCertificate c)
    → AreRead c.setting h.certificate.setting [] c.lines
lines_are c h =
    are_read c.setting h.certificate.setting [] c.lines h.certificate.lines
    (recursion_from_All (λ line. All (HasTextWords c.setting) line) c.lines h.words)

pub reads_what_is_printed : ReadsWhatIsPrinted
reads_what_is_printed c h few =
    certificate_again c.setting h.certificate.setting c.claim h.claim c.lines few (lines_are c h)

pub reads_terms : ReadsTerms
reads_terms s claim α h = terms_again s h.certificate.setting claim h.claim α (lines_are _ h)

same_value : (c d : Certificate) (r : Result Certificate TextFault) → r ≡ Ok c → r ≡ Ok d → c ≡ d
same_value c d r e k = cc

pub one_certificate : OneCertificate
one_certificate c d is_c is_d few_c few_d e =
    same_value c d (reads_certificate (certificate_text c)) (reads_what_is_printed c is_c few_c)
    (ap reads_certificate e ∙ reads_what_is_printed d is_d few_d)
