-- Whether a claim has a representation within the bound of a problem, as the end of its run tells.
--
-- The claim is reduced by the entries, by multiples with signatures within the bound. If nothing is
-- left, what was subtracted is a representation. If something is left and the run is complete,
-- there is none, by the law `MembershipTheorem`. If something is left and the steps were used up,
-- the question stays open. No representation within the bound does not mean that the claim lies
-- outside of the ideal.
--
-- A representation is given as a module element, whose labels may have too many terms, or as lines
-- of a certificate, for which no limit on terms is needed.
use Rattle.nc_algebra.specs.Certificates.{AreLines, IsValid, Line}
use Rattle.nc_algebra.specs.Elements.{IsIn, SamePolynomial, evaluation}
use Rattle.nc_algebra.specs.Monomials.{Monomial, Sig}
use Rattle.nc_algebra.specs.Polynomials.{Polynomial}
use Rattle.nc_algebra.specs.Problems.{IsWithin, NamedProblem, Problem, setting_of}
use Rattle.nc_algebra.specs.Sums.{Term}
use Rattle.nc_cofactor.specs.Claims.{AreNeededTraces, ClaimTerms, IsRepresentation, numbers_of}
use Rattle.nc_cofactor.specs.Terms.{IsFirstPastAt}
use Rattle.nc_cofactor.specs.Traces.{RunAt}
use Rattle.nc_cofactor.specs.declared.fault.CofactorFault.{CofactorFault}
use Rattle.nc_cofactor.specs.declared.fault.CofactorFault.TheVariants.{OutOfMemory, TooMany}
use Rattle.nc_desk.specs.Ends.{Finished}
use Rattle.nc_member.specs.Lines.{proof_lines}
use Rattle.nc_member.specs.declared.membership.Membership.{Membership}
use Rattle.nc_member.specs.declared.membership.Membership.TheVariants.{Below, NotBelow, Undecided}
use Rattle.nc_module.specs.Modules.{element_of}
use Rattle.nc_snapshot.specs.declared.outcome.Listed.{Listed}
use Rattle.nc_theory.specs.Bases.{HasRepresentation}
use Rattle.nc_theory.specs.Reductions.{Reduction}
use Rattle.nc_theory.specs.Runs.{End}
use Rattle.nc_theory.specs.States.{Step, Trace}
use Rattle.std.specs.Prelude.{List, [], ℕ, ◌≡◌, ◌≢◌}

-- the claim was reduced within the bound by the entries of the run after n steps: what is left, and
-- what was subtracted
pub record IsRestOf (P : Problem) (n : ℕ) (claim rest : Polynomial) (steps : List Step) : Type 0
  where
    pub at : RunAt P n
    pub reduces : Reduction P.setting at.run.entries (IsWithin P) claim rest steps

-- nothing is left, and this is a representation of the claim within the bound: the sum of the
-- labels of what was subtracted
pub record IsRepresented (P : Problem) (n : ℕ) (claim : Polynomial) (limit : ℕ)
    (m : List (Term Sig)) : Type 0 where
  pub steps : List Step
  pub rest : IsRestOf P n claim [] steps
  pub is : IsRepresentation P n steps limit m
  pub lies : IsIn P.setting (element_of m) (IsWithin P)
  pub evaluates : SamePolynomial P.setting (evaluation P.setting (element_of m)) claim

-- the run is complete, something is left, and the claim has no representation within the bound
pub record IsUnrepresented (P : Problem) (n : ℕ) (ending : End) (claim rest : Polynomial) : Type 0
  where
    pub complete : ending ≡ End.complete
    pub some : rest ≢ []
    pub steps : List Step
    pub is : IsRestOf P n claim rest steps
    pub none : ¬ HasRepresentation P.setting (IsWithin P) claim

-- the steps were used up, and something is left
pub record IsOpen (P : Problem) (n : ℕ) (ending : End) (claim rest : Polynomial) : Type 0 where
  pub next : Monomial
  pub budget : ending ≡ End.budget next
  pub some : rest ≢ []
  pub steps : List Step
  pub is : IsRestOf P n claim rest steps

-- the answer: what shows a representation, that there is none within the bound, or that it stays
-- open
abbrev pub IsMembership : {T : Type 0} → (T → Type 0) → Finished → Polynomial → Membership T
    → Type 0
IsMembership Shows f claim (Below x) = Shows x
IsMembership Shows f claim (NotBelow rest) =
    IsUnrepresented f.snapshot.problem.problem f.snapshot.handled f.ending claim rest
IsMembership Shows f claim (Undecided rest) =
    IsOpen f.snapshot.problem.problem f.snapshot.handled f.ending claim rest

-- ---- with a module element

-- the answer, with a representation
abbrev pub IsMember : Finished → Polynomial → ℕ → Membership (List (Term Sig)) → Type 0
IsMember f claim limit =
    IsMembership (IsRepresented f.snapshot.problem.problem f.snapshot.handled claim limit) f claim

-- nothing is left, and the label of this entry that is needed, or else the representation, has more
-- terms than the limit
pub record IsTooManyOf (P : Problem) (n : ℕ) (claim : Polynomial) (limit : ℕ) (named : Listed)
    (terms : ℕ) : Type 0 where
  pub steps : List Step
  pub rest : IsRestOf P n claim [] steps
  pub many : IsFirstPastAt P n (ClaimTerms steps) limit named terms

-- why there is no answer; want of memory says nothing
abbrev pub FailsToAnswer : Finished → Polynomial → ℕ → CofactorFault → Type 0
FailsToAnswer f claim limit OutOfMemory = Unit {0}
FailsToAnswer f claim limit (TooMany named terms) =
    IsTooManyOf f.snapshot.problem.problem f.snapshot.handled claim limit named terms

-- ---- with lines

-- nothing is left, and these lines, which keep the rule of certificates, have the claim as their
-- value: those of the entries
-- that are needed, and that of what was subtracted
pub record IsProved (P : NamedProblem) (n : ℕ) (claim : Polynomial) (lines : List Line) : Type 0
  where
    pub steps : List Step
    pub rest : IsRestOf P.problem n claim [] steps
    pub needed : List (ℕ × Trace)
    pub traces : AreNeededTraces P.problem n (numbers_of steps) needed
    pub are : lines ≡ proof_lines P.problem.setting.prime needed steps
    pub keeps : AreLines (setting_of P) [] lines
    pub valid : IsValid P.problem.setting claim lines
    pub has : HasRepresentation P.problem.setting (IsWithin P.problem) claim

-- the answer, with lines of a certificate
abbrev pub IsProof : Finished → Polynomial → Membership (List Line) → Type 0
IsProof f claim = IsMembership (IsProved f.snapshot.problem f.snapshot.handled claim) f claim
