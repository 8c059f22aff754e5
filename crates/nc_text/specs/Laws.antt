-- The theorems on reading and printing.
--
-- What is printed is read as what it was: certificates, certificates of form 1, polynomials and
-- monomials. So two certificates with one text are one. What is read obeys the rules: certificates
-- may stand in a text, and problems are within their limits. The last law says that two definitions
-- of words agree.
--
-- Each law is the contract of a public function with an empty body.
use Rattle.nc_algebra.specs.Alphabets.{Alphabet, IsTextPolynomial, IsTextWord}
use Rattle.nc_algebra.specs.Certificates.{Certificate, IsTextCertificate, element_lines}
use Rattle.nc_algebra.specs.Elements.{Element, IsGenerator}
use Rattle.nc_algebra.specs.Limits.{max_lines}
use Rattle.nc_algebra.specs.Monomials.{Monomial}
use Rattle.nc_algebra.specs.Polynomials.{Polynomial}
use Rattle.nc_algebra.specs.Problems.{IsProblem}
use Rattle.nc_algebra.specs.Settings.{IsSetting, NamedSetting}
use Rattle.nc_algebra.specs.Words.{Word}
use Rattle.nc_print.specs.Printing.{certificate_text, poly_text, sig_text, terms_text}
use Rattle.nc_text.specs.Certificates.{reads_certificate}
use Rattle.nc_text.specs.Patterns.{word_by_patterns}
use Rattle.nc_text.specs.Problems.{ProblemText, reads_problem}
use Rattle.nc_text.specs.Reading.{factors_at, poly_at}
use Rattle.nc_text.specs.Rows.{mono_at}
use Rattle.nc_tokens.specs.Tokens.{Token, tokens}
use Rattle.std.specs.Prelude.{Bool, List, Ok, length, ℕ, ◌≡◌, ◌≤◌}

-- What is printed of a certificate is read as that certificate.
-- A line's number is read where it has at most 18 digits; so the lines are no more than those that
-- the code keeps.
abbrev pub ReadsWhatIsPrinted : Type 0
ReadsWhatIsPrinted =
    (c : Certificate) → IsTextCertificate c → length c.lines ≤ max_lines
    → reads_certificate (certificate_text c) ≡ Ok c

-- What is printed of a claim and terms is read as the certificate with one line of those terms, and
-- without a line where there is none.
abbrev pub ReadsTerms : Type 0
ReadsTerms =
    (s : NamedSetting) (claim : Polynomial) (terms : Element)
    → IsTextCertificate (record { setting = s; claim = claim; lines = element_lines terms })
    → reads_certificate (terms_text s claim terms)
    ≡ Ok (record { setting = s; claim = claim; lines = element_lines terms })

-- So is what is printed of a polynomial, and of a monomial.
abbrev pub ReadsPolynomials : Type 0
ReadsPolynomials =
    (s : NamedSetting) (f : Polynomial) → IsSetting s
    → IsTextPolynomial s.alphabet s.setting.prime f
    → poly_at s.setting.prime s.alphabet (tokens (poly_text s.alphabet.names f)) ≡ Ok f

-- What is printed of a monomial is read as that monomial.
abbrev pub ReadsMonomials : Type 0
ReadsMonomials =
    (s : NamedSetting) (σ : Monomial) → IsSetting s → IsGenerator s.setting σ.generator
    → IsTextWord s.alphabet σ.left → IsTextWord s.alphabet σ.right
    → mono_at s.alphabet (length s.setting.generators) (tokens (sig_text s.alphabet.names σ)) ≡ Ok σ

-- Two certificates with the same text are the same.
abbrev pub OneCertificate : Type 0
OneCertificate =
    (c d : Certificate) → IsTextCertificate c → IsTextCertificate d → length c.lines ≤ max_lines
    → length d.lines ≤ max_lines → certificate_text c ≡ certificate_text d → c ≡ d

-- What is read is a certificate.
abbrev pub ReadsCertificates : Type 0
ReadsCertificates =
    (bytes : List ℕ) (c : Certificate) → reads_certificate bytes ≡ Ok c → IsTextCertificate c

-- What is read is a problem.
abbrev pub ReadsProblems : Type 0
ReadsProblems =
    (wants_claim : Bool) (bytes : List ℕ) (t : ProblemText) → reads_problem wants_claim bytes ≡ Ok t
    → IsProblem t.problem

-- A word read by patterns on its tokens is one read factor after factor.
abbrev pub SameWords : Type 0
SameWords =
    (a : Alphabet) (w : Word) (ts : List Token)
    → word_by_patterns a w ts ≡ factors_at (length ts) a w ts
