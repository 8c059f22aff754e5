-- A claim that is asked of a run which has come to its end: what the functions of `member` pass on,
-- and what is found of the claim.
use Rattle.nc_algebra.specs.Certificates.{Line}
use Rattle.nc_algebra.specs.Monomials.{Sig}
use Rattle.nc_algebra.specs.Polynomials.{Polynomial}
use Rattle.nc_algebra.specs.Sums.{Term}
use Rattle.nc_member.specs.Members.{IsMember, IsOpen, IsProved, IsRepresented, IsUnrepresented}
use Rattle.nc_member.specs.declared.membership.Membership.{Membership}
use Rattle.nc_top.specs.Member.{IsClaimText, IsMemberAnswer}
use Rattle.nc_top.specs.declared.member.Asked.{Asked}
use Rattle.nc_top.specs.declared.status.Status.{Status}
use Rattle.std.specs.Prelude.{List, ℕ}

-- the bytes are a text of the run's problem and the claim
abbrev pub IsAsked : Asked → Type 0
IsAsked a = IsClaimText a.bytes.now a.finished.now.snapshot.problem a.claim.now

-- status and report for the bytes
abbrev pub IsAskedAnswer : Asked → Status → List ℕ → Type 0
IsAskedAnswer a = IsMemberAnswer a.options a.bytes.now

-- the run is complete, and this is left of the claim
abbrev pub LeavesRest : Asked → Polynomial → Type 0
LeavesRest a =
    IsUnrepresented a.finished.now.snapshot.problem.problem a.finished.now.snapshot.handled
    a.finished.now.ending a.claim.now

-- the steps were used up, and this is left of the claim
abbrev pub StaysOpen : Asked → Polynomial → Type 0
StaysOpen a =
    IsOpen a.finished.now.snapshot.problem.problem a.finished.now.snapshot.handled
    a.finished.now.ending a.claim.now

-- the lines prove the claim
abbrev pub AreLinesOf : Asked → List Line → Type 0
AreLinesOf a = IsProved a.finished.now.snapshot.problem a.finished.now.snapshot.handled a.claim.now

-- the answer with a module element
abbrev pub IsFoundOf : Asked → Membership (List (Term Sig)) → Type 0
IsFoundOf a = IsMember a.finished.now a.claim.now a.options.limit

-- the terms represent the claim
abbrev pub AreTermsOf : Asked → List (Term Sig) → Type 0
AreTermsOf a =
    IsRepresented a.finished.now.snapshot.problem.problem a.finished.now.snapshot.handled
    a.claim.now a.options.limit
