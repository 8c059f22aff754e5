-- The theorems on the program's answers.
--
-- Each input has one status and one report. If the source tells its bytes and nothing failed, the
-- answer is that of all these bytes, unless memory ran out. If the problem also allows as many
-- steps as its bound has monomials over its alphabet, `basis` and `member` decide: they give no
-- answer that was cut short by the budget. What `member` prints as a certificate, `check` finds
-- valid, if it takes the text at all.
--
-- Each law is the contract of a public function with an empty body.
use Rattle.nc_algebra.specs.Certificates.{Certificate, HasTextWords, IsCertificate, element_lines}
use Rattle.nc_algebra.specs.Elements.{Element}
use Rattle.nc_algebra.specs.Finite.{monomials_within}
use Rattle.nc_algebra.specs.Limits.{max_bytes}
use Rattle.nc_algebra.specs.Polynomials.{Polynomial}
use Rattle.nc_algebra.specs.Problems.{IsWithin, NamedProblem, setting_of}
use Rattle.nc_cert.specs.Checking.{IsValidCertificate}
use Rattle.nc_options.specs.declared.options.BasisOptions.{BasisOptions}
use Rattle.nc_options.specs.declared.options.Form.{Form}
use Rattle.nc_options.specs.declared.options.Form.TheVariants.{Lines, Terms}
use Rattle.nc_options.specs.declared.options.MemberOptions.{MemberOptions}
use Rattle.nc_options.specs.declared.options.Options.{Options}
use Rattle.nc_options.specs.declared.options.Options.TheVariants.{Basis, Member}
use Rattle.nc_print.specs.Printing.{certificate_text, terms_text}
use Rattle.nc_text.specs.Certificates.{reads_certificate}
use Rattle.nc_theory.specs.Named.{alphabet_letters}
use Rattle.nc_snapshot.specs.declared.outcome.Listed.{Listed}
use Rattle.nc_top.specs.Basis.{IsComplete, IsProblemText, IsTooManyTerms}
use Rattle.nc_theory.specs.Bases.{HasRepresentation}
use Rattle.nc_top.specs.Check.{IsCheckAnswer, IsWithinWork}
use Rattle.nc_top.specs.Member.{IsCertified, IsClaimText, IsNotBelow, IsTooManyTermsOf}
use Rattle.nc_top.specs.Run.{HasWritten, IsAnswer, LackedMemory, Ran, Runs, StreamUse}
use Rattle.nc_top.specs.declared.status.Status.{Status}
use Rattle.nc_top.specs.declared.status.Status.TheVariants.{Done, NotBelow, TooMany}
use Rattle.std.specs.Prelude.{All, List, Ok, Some, codes, length, ℕ, ◌≡◌, ◌≤◌, ◌⊎◌}

-- for each command that runs, the bytes have one status and one report
abbrev pub OneAnswer : Type 0
OneAnswer = (options : Options) → Runs options → (bytes : List ℕ) →
    ((status : Status) × (report : List ℕ) × IsAnswer options bytes status report)
    × ((status status' : Status) (report report' : List ℕ) → IsAnswer options bytes status report
    → IsAnswer options bytes status' report' → (status ≡ status') × (report ≡ report'))

-- ---- runs in which nothing fails

-- a run whose source tells its bytes, and in which no failure was counted
pub record RanWell (options : Options) (bytes : List ℕ) (source : StreamUse) (sink : StreamUse)
    (result : Status) : Type 0 where
  pub told : source.bytes_before ≡ Some bytes
  pub read_well : source.faults_after ≡ source.faults_before
  pub wrote_well : sink.faults_after ≡ sink.faults_before
  pub ran : Ran options source sink result

-- some report of this kind was written
abbrev pub WroteSome : StreamUse → (List ℕ → Type 0) → Type 0
WroteSome sink IsReport = (report : List ℕ) × IsReport report × HasWritten sink report

-- status and report of such a run are those of all its bytes, unless memory ran out
abbrev pub FaultlessRuns : Type 0
FaultlessRuns =
    (options : Options) → Runs options
    → (bytes : List ℕ) (source : StreamUse) (sink : StreamUse) (result : Status)
    → RanWell options bytes source sink result
    → LackedMemory sink result ⊎ WroteSome sink (IsAnswer options bytes result)

-- ---- problems with enough steps

-- as many steps as the bound has module monomials
abbrev pub HasEnoughSteps : NamedProblem → Type 0
HasEnoughSteps P =
    length (monomials_within P.problem.setting P.problem.bound (alphabet_letters P.alphabet))
    ≤ P.problem.steps

-- `basis` answers with the whole report, or names a label that is to be shown and has too many
-- terms
abbrev pub CompleteRuns : Type 0
CompleteRuns =
    (options : BasisOptions) (bytes : List ℕ) (P : NamedProblem) → IsProblemText bytes P
    → HasEnoughSteps P
    → (source : StreamUse) (sink : StreamUse) (result : Status)
    → RanWell (Basis options) bytes source sink result
    → LackedMemory sink result
    ⊎ (((result ≡ Done) × WroteSome sink (IsComplete options bytes))
    ⊎ ((named : Listed) × (terms : ℕ) × (result ≡ TooMany named terms)
    × WroteSome sink (IsTooManyTerms options bytes named terms)))

-- the claim has a representation within the bound
abbrev pub IsBelow : NamedProblem → Polynomial → Type 0
IsBelow P claim = HasRepresentation P.problem.setting (IsWithin P.problem) claim

-- `member` answers with a certificate of the claim, or names a label that has too many terms, where
-- the claim has a representation within the bound; and tells that it has none where it has none
abbrev pub CompleteMembers : Type 0
CompleteMembers =
    (options : MemberOptions) (bytes : List ℕ) (P : NamedProblem) (claim : Polynomial)
    → IsClaimText bytes P claim → HasEnoughSteps P
    → (source : StreamUse) (sink : StreamUse) (result : Status)
    → RanWell (Member options) bytes source sink result
    → LackedMemory sink result
    ⊎ ((IsBelow P claim × (result ≡ Done) × WroteSome sink (IsCertified options bytes))
    ⊎ ((IsBelow P claim × ((named : Listed) × (terms : ℕ) × (result ≡ TooMany named terms)
    × WroteSome sink (IsTooManyTermsOf options bytes named terms)))
    ⊎ (¬ IsBelow P claim × (result ≡ NotBelow) × WroteSome sink (IsNotBelow bytes))))

-- ---- certificates that are printed

-- a certificate of the problem and the claim that the bytes are a text of
pub record IsCertificateOf (bytes : List ℕ) (c : Certificate) : Type 0 where
  pub problem : NamedProblem
  pub text : IsClaimText bytes problem c.claim
  pub setting : c.setting ≡ setting_of problem
  pub keeps : IsCertificate c
  pub valid : IsValidCertificate c

-- the text of a certificate: by lines, or by the terms of its only line
abbrev pub IsPrintedAs : Form → Certificate → List ℕ → Type 0
IsPrintedAs Lines c report = report ≡ certificate_text c
IsPrintedAs Terms c report =
    (terms : Element) × (c.lines ≡ element_lines terms)
    × (report ≡ terms_text c.setting c.claim terms)

-- its words have at most 255 letters, its text is not too long, and checking it asks for no more
-- work than the limit
pub record IsCheckable (c : Certificate) (text : List ℕ) : Type 0 where
  pub words : All (λ line. All (HasTextWords c.setting) line) c.lines
  pub small : length text ≤ max_bytes
  pub within : IsWithinWork c

-- what `member` prints of a claim that has a representation is a certificate of the claim; where it
-- can be checked, it is read as what it is, and `check` answers that it is valid
abbrev pub MembersCheck : Type 0
MembersCheck =
    (options : MemberOptions) (bytes report : List ℕ) → IsCertified options bytes report
    → (c : Certificate) × IsCertificateOf bytes c × IsPrintedAs options.form c report
    × (IsCheckable c report
    → (reads_certificate report ≡ Ok c) × IsCheckAnswer report Done (codes "valid\n"))
