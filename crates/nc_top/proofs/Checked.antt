-- The certificate that `member` prints is one of its claim, and `check` finds it valid.
-- A text has at least a byte for each line of its certificate (`lines_few`), so a text that is not
-- too long has no more lines than reading counts.
use Rattle.nc_algebra.proofs.LineElements.{element_as_line}
use Rattle.nc_algebra.specs.Certificates.{Certificate, IsCertificate, IsTextCertificate, Line, element_lines}
use Rattle.nc_algebra.specs.Elements.{SamePolynomial}
use Rattle.nc_algebra.specs.Polynomials.{Polynomial}
use Rattle.nc_algebra.specs.Problems.{setting_of}
use Rattle.nc_cert.specs.Checking.{IsValidCertificate}
use Rattle.nc_module.specs.Modules.{element_of}
use Rattle.nc_options.specs.declared.options.Form.{Form}
use Rattle.nc_options.specs.declared.options.Form.TheVariants.{Lines, Terms}
use Rattle.nc_print.specs.Printing.{certificate_lines, certificate_text, poly_text, printed_line, printed_setting}
use Rattle.nc_text.proofs.RoundTripCertificates.{reads_terms, reads_what_is_printed}
use Rattle.nc_text.specs.Certificates.{reads_certificate}
use Rattle.nc_top.proofs.Claims.{text_claim}
use Rattle.nc_top.specs.Check.{IsCheckAnswer}
use Rattle.nc_top.specs.Laws.{IsCertificateOf, IsCheckable, IsPrintedAs, MembersCheck}
use Rattle.nc_top.specs.Member.{ClaimAtEnd, IsCertifiedAs, IsClaimAtEnd, IsTerms, certificate_with}
use Rattle.nc_top.specs.declared.status.Status.TheVariants.{Done}
use Rattle.std.proofs.Common.{List, Ok, [], ap, arith, codes, flat_map, length, length-append, refl, subst, sym, ℕ, ◌++◌, ◌∷◌, ◌≡◌, ◌≤◌}

abbrev IsShownAs : Form → List ℕ → List ℕ → Type 0
IsShownAs form bytes report =
    (c : Certificate) × IsCertificateOf bytes c × IsPrintedAs form c report
    × (IsCheckable c report
    → (reads_certificate report ≡ Ok c) × IsCheckAnswer report Done (codes "valid\n"))

-- pieces that are not empty
at_least : {X A : Type 0} (f : X → List A) → ((x : X) → 1 ≤ length (f x)) → (xs : List X)
    → length xs ≤ length (flat_map f xs)
at_least f some [] = omega arith
at_least f some (x ∷ xs) =
    omega (arith, some x, at_least f some xs, length-append (f x) (flat_map f xs))

lines_few : (c : Certificate) → length c.lines ≤ length (certificate_text c)
lines_few c =
    let listed : length c.lines ≤ length (flat_map (printed_line c.setting.alphabet.names) c.lines) =
    at_least (printed_line c.setting.alphabet.names) (λ line. omega arith) c.lines in
    let ends : length (certificate_lines c) ≤ length (certificate_text c) =
    at_least (λ (line : List ℕ). line ++ 10 ∷ [])
    (λ line. omega (arith, length-append line (10 ∷ []))) (certificate_lines c) in
    omega (
      arith,
      listed,
      ends,
      length-append (printed_setting c.setting)
          (claim_line ∷ (flat_map (printed_line c.setting.alphabet.names) c.lines
          ++ codes "end" ∷ [])),
      length-append (flat_map (printed_line c.setting.alphabet.names) c.lines)
          (codes "end" ∷ []),
    )
  where
    claim_line : List ℕ
    claim_line = codes "claim " ++ poly_text c.setting.alphabet.names c.claim

module _ (bytes report : List ℕ) (e : ClaimAtEnd) (is : IsClaimAtEnd bytes e) (lines : List Line)
    (keeps : IsCertificate (certificate_with e lines))
    (valid : IsValidCertificate (certificate_with e lines)) where
  abbrev c : Certificate
  c = certificate_with e lines

  certificate_of : IsCertificateOf bytes c
  certificate_of =
      record { problem = e.problem; text = is.text; setting = refl; keeps = keeps; valid = valid }

  may_be_read : IsCheckable c report → IsTextCertificate c
  may_be_read k = record {
    certificate = keeps;
    claim = text_claim bytes e.problem e.claim is.text;
    words = k.words;
  }

  checks : IsCheckable c report → reads_certificate report ≡ Ok c
      → IsCheckAnswer report Done (codes "valid\n")
  checks k read = record {
    certificate = c;
    text = record { small = k.small; read = read };
    within = k.within;
    valid = valid;
    written = refl;
  }

  shown : (form : Form) → IsPrintedAs form c report
      → (IsCheckable c report → reads_certificate report ≡ Ok c)
      → IsShownAs form bytes report
  shown form printed reads =
      (c, certificate_of, printed, λ k. (reads k, checks k (reads k)))

-- the value of the one line is that of the element
valid_terms : (limit : ℕ) (bytes report : List ℕ) (t : IsTerms limit bytes report)
    → IsValidCertificate (certificate_with t.at_end (element_lines (element_of t.m)))
valid_terms limit bytes report t =
    subst (λ (f : Polynomial). SamePolynomial t.at_end.problem.problem.setting f t.at_end.claim)
    (sym (element_as_line t.at_end.problem.problem.setting (element_of t.m)))
    t.represented.evaluates

by_form : (form : Form) (limit : ℕ) (bytes report : List ℕ)
    → IsCertifiedAs form limit bytes report → IsShownAs form bytes report
by_form Lines limit bytes report t =
    shown bytes report t.at_end t.is t.lines t.keeps t.proved.valid Lines t.written
    (λ k. subst (λ (text : List ℕ). reads_certificate text ≡ Ok (certificate_with t.at_end t.lines))
    (sym t.written) (reads_what_is_printed (certificate_with t.at_end t.lines)
    (may_be_read bytes report t.at_end t.is t.lines t.keeps t.proved.valid k)
    (omega (
      arith,
      lines_few (certificate_with t.at_end t.lines),
      ap (λ (text : List ℕ). length text) t.written,
      k.small,
    ))))
by_form Terms limit bytes report t =
    let valid = valid_terms limit bytes report t in
    shown bytes report t.at_end t.is (element_lines (element_of t.m)) t.keeps valid Terms (
      element_of t.m,
      refl,
      t.written,
    )
    (λ k. subst (λ (text : List ℕ). reads_certificate text
    ≡ Ok (certificate_with t.at_end (element_lines (element_of t.m)))) (sym t.written)
    (reads_terms (setting_of t.at_end.problem) t.at_end.claim (element_of t.m)
    (may_be_read bytes report t.at_end t.is (element_lines (element_of t.m)) t.keeps valid k)))

pub members_check : MembersCheck
members_check options bytes report h = by_form options.form options.limit bytes report h
