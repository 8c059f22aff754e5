-- What `member` answers to the bytes of an input: whether its claim has a representation.
--
-- The run of the problem is made to its end, and the claim is reduced by what it has found, within
-- the bound. If nothing is left, the report is a certificate, in form 2 with the lines that prove
-- the claim, or in form 1 with a module element. If something is left and the run is complete,
-- there is no representation within the bound; the claim may still lie in the ideal. If something
-- is left and the steps were used up, the question stays open. What each of these means stands in
-- `Members.antt` of nc_member; here it gets its bytes.
--
-- A certificate that is printed can be checked by `check`, which knows nothing of runs. Only form 1
-- needs labels, and so has a limit on terms.
use Rattle.nc_algebra.specs.Certificates.{Certificate, IsCertificate, Line, element_lines}
use Rattle.nc_algebra.specs.Limits.{max_bytes}
use Rattle.nc_algebra.specs.Monomials.{Sig}
use Rattle.nc_algebra.specs.Polynomials.{Polynomial}
use Rattle.nc_algebra.specs.Problems.{NamedProblem, setting_of}
use Rattle.nc_algebra.specs.Sums.{Term}
use Rattle.nc_member.specs.Members.{IsOpen, IsProved, IsRepresented, IsTooManyOf, IsUnrepresented}
use Rattle.nc_module.specs.Modules.{element_of}
use Rattle.nc_options.specs.declared.options.Form.{Form}
use Rattle.nc_options.specs.declared.options.Form.TheVariants.{Terms, Lines}
use Rattle.nc_options.specs.declared.options.MemberOptions.{MemberOptions}
use Rattle.nc_print.specs.Printing.{certificate_text, terms_text}
use Rattle.nc_snapshot.specs.declared.outcome.Listed.{Listed}
use Rattle.nc_text.specs.Problems.{ProblemText, reads_problem}
use Rattle.nc_theory.specs.Runs.{End, IsEnd}
use Rattle.nc_theory.specs.States.{State}
use Rattle.nc_tokens.specs.declared.fault.TextFault.{TextFault}
use Rattle.nc_top.specs.Inputs.{IsBadText, IsTooLarge}
use Rattle.nc_top.specs.Reports.{not_below_report, too_many_report, undecided_report}
use Rattle.nc_top.specs.declared.status.Status.{Status}
use Rattle.nc_top.specs.declared.status.Status.TheVariants.{BadText, Budget, Done, NotBelow, TooLarge, TooMany}
use Rattle.std.specs.Prelude.{List, Ok, Some, length, true, ℕ, ◌≡◌, ◌≤◌}
use Rattle.std.specs.declared.result.Result.{Result}

-- a problem, whose claim is wanted
abbrev pub reads_claim : List ℕ → Result ProblemText TextFault
reads_claim bytes = reads_problem true bytes

-- the bytes are a text of this problem with this claim, and are not too many
pub record IsClaimText (bytes : List ℕ) (P : NamedProblem) (claim : Polynomial) : Type 0 where
  pub small : length bytes ≤ max_bytes
  pub read : reads_claim bytes ≡ Ok (record { problem = P; claim = Some claim })

-- ---- the end of the run

-- a problem with a claim, and the end of the problem's run: after how many signatures it comes, and
-- how
pub record ClaimAtEnd : Type 0 where
  pub problem : NamedProblem
  pub claim : Polynomial
  pub handled : ℕ
  pub ending : End

-- the bytes are a text of the problem and the claim, and the problem's run ends so
pub record IsClaimAtEnd (bytes : List ℕ) (e : ClaimAtEnd) : Type 0 where
  pub text : IsClaimText bytes e.problem e.claim
  pub run : State
  pub ends : IsEnd e.problem.problem e.handled run e.ending

-- ---- what is told of the claim

-- the certificate of the claim with these lines
abbrev pub certificate_with : ClaimAtEnd → List Line → Certificate
certificate_with e lines = record { setting = setting_of e.problem; claim = e.claim; lines = lines }

-- the report is the certificate with the lines that prove the claim
pub record IsLines (bytes report : List ℕ) : Type 0 where
  pub at_end : ClaimAtEnd
  pub is : IsClaimAtEnd bytes at_end
  pub lines : List Line
  pub proved : IsProved at_end.problem at_end.handled at_end.claim lines
  pub keeps : IsCertificate (certificate_with at_end lines)
  pub written : report ≡ certificate_text (certificate_with at_end lines)

-- the report is the certificate with the terms of a representation of the claim: one line
pub record IsTerms (limit : ℕ) (bytes report : List ℕ) : Type 0 where
  pub at_end : ClaimAtEnd
  pub is : IsClaimAtEnd bytes at_end
  pub m : List (Term Sig)
  pub represented : IsRepresented at_end.problem.problem at_end.handled at_end.claim limit m
  pub keeps : IsCertificate (certificate_with at_end (element_lines (element_of m)))
  pub written : report ≡ terms_text (setting_of at_end.problem) at_end.claim (element_of m)

-- the label of this entry that is needed, or else the representation, has more terms than the limit
pub record IsTooManyInSum (limit : ℕ) (bytes : List ℕ) (named : Listed) (terms : ℕ)
    (report : List ℕ) : Type 0 where
  pub at_end : ClaimAtEnd
  pub is : IsClaimAtEnd bytes at_end
  pub many : IsTooManyOf at_end.problem.problem at_end.handled at_end.claim limit named terms
  pub written : report ≡ too_many_report named terms

-- the claim has no representation within the bound, and this is what is left of it
pub record IsNotBelow (bytes report : List ℕ) : Type 0 where
  pub at_end : ClaimAtEnd
  pub is : IsClaimAtEnd bytes at_end
  pub rest : Polynomial
  pub left : IsUnrepresented at_end.problem.problem at_end.handled at_end.ending at_end.claim rest
  pub written : report ≡ not_below_report at_end.problem.alphabet.names rest

-- the steps were used up before a next signature, and this is what is left of the claim
pub record IsUndecided (bytes report : List ℕ) : Type 0 where
  pub at_end : ClaimAtEnd
  pub is : IsClaimAtEnd bytes at_end
  pub rest : Polynomial
  pub left : IsOpen at_end.problem.problem at_end.handled at_end.ending at_end.claim rest
  pub written : report ≡ undecided_report at_end.problem.alphabet.names left.next rest

-- ---- answers

-- a certificate of the claim in this form; only terms have a limit
abbrev pub IsCertifiedAs : Form → ℕ → List ℕ → List ℕ → Type 0
IsCertifiedAs Terms limit bytes report = IsTerms limit bytes report
IsCertifiedAs Lines limit bytes report = IsLines bytes report

-- a label has more terms than the limit, which no lines have
abbrev pub IsTooManyAs : Form → ℕ → List ℕ → Listed → ℕ → List ℕ → Type 0
IsTooManyAs Terms limit bytes named terms report = IsTooManyInSum limit bytes named terms report
IsTooManyAs Lines limit bytes named terms report = ⊥

-- the same in the form that is asked for
abbrev pub IsCertified : MemberOptions → List ℕ → List ℕ → Type 0
IsCertified options bytes report = IsCertifiedAs options.form options.limit bytes report

abbrev pub IsTooManyTermsOf : MemberOptions → List ℕ → Listed → ℕ → List ℕ → Type 0
IsTooManyTermsOf options bytes named terms report =
    IsTooManyAs options.form options.limit bytes named terms report

-- status and report for the bytes of an input
abbrev pub IsMemberAnswer : MemberOptions → List ℕ → Status → List ℕ → Type 0
IsMemberAnswer options bytes Done report = IsCertified options bytes report
IsMemberAnswer options bytes NotBelow report = IsNotBelow bytes report
IsMemberAnswer options bytes Budget report = IsUndecided bytes report
IsMemberAnswer options bytes (TooMany named terms) report =
    IsTooManyTermsOf options bytes named terms report
IsMemberAnswer options bytes (BadText line kind) report =
    IsBadText reads_claim bytes line kind report
IsMemberAnswer options bytes TooLarge report = IsTooLarge bytes report
IsMemberAnswer options bytes _ report = ⊥
