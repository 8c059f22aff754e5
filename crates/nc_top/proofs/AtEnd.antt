-- What is told of a claim, over the one run that ends.
-- The records of an answer each name a run of the problem. There is only one (`the_one`), so they
-- become facts on the run at its end (`Remainder`), and facts on that run become records again.
use Rattle.nc_algebra.specs.Certificates.{IsCertificate, IsValid, Line}
use Rattle.nc_algebra.specs.Elements.{IsIn, SamePolynomial, evaluation}
use Rattle.nc_algebra.specs.Monomials.{Monomial, Sig}
use Rattle.nc_algebra.specs.Polynomials.{Polynomial}
use Rattle.nc_algebra.specs.Problems.{IsProblem, IsWithin, NamedProblem}
use Rattle.nc_algebra.specs.Sums.{Term}
use Rattle.nc_cofactor.specs.Claims.{ClaimTerms, ListsNeeded, numbers_of}
use Rattle.nc_cofactor.specs.Firsts.{AreWithin, IsFirstPast}
use Rattle.nc_cofactor.specs.Sums.{IsSum}
use Rattle.nc_cofactor.specs.Traces.{IsTraceIn, RunAt}
use Rattle.nc_member.specs.Lines.{proof_lines}
use Rattle.nc_member.specs.Members.{IsOpen, IsProved, IsRepresented, IsRestOf, IsTooManyOf, IsUnrepresented}
use Rattle.nc_module.specs.Modules.{element_of}
use Rattle.nc_snapshot.specs.declared.outcome.Listed.{Listed}
use Rattle.nc_snapshot.specs.declared.outcome.Listed.TheVariants.{Entry as EntryOf}
use Rattle.nc_theory.proofs.Determinism.{run_unique}
use Rattle.nc_theory.specs.Bases.{HasRepresentation}
use Rattle.nc_theory.specs.Labels.{labels_of, step_multiples}
use Rattle.nc_theory.specs.Reductions.{Reduction}
use Rattle.nc_theory.specs.Runs.{End, IsEnd, SequentialRun}
use Rattle.nc_theory.specs.States.{State, Step, Trace}
use Rattle.nc_top.proofs.BasisAnswers.{ended_run, field_of}
use Rattle.nc_top.proofs.Claims.{problem_is}
use Rattle.nc_top.specs.Member.{ClaimAtEnd, IsClaimText, IsClaimAtEnd, certificate_with}
use Rattle.std.proofs.Common.{All, List, Option, [], map, subst, ℕ, ◌≡◌, ◌≢◌}

-- a claim at the end of a problem's run: what is left of it, and what was subtracted
pub record Remainder : Type 0 where
  pub problem : NamedProblem
  pub claim : Polynomial
  pub handled : ℕ
  pub run : State
  pub ending : End
  pub rest : Polynomial
  pub steps : List Step

-- the bytes are a text of the problem and the claim, and the claim was reduced within the bound by
-- all entries of the run
pub record IsRemainder (bytes : List ℕ) (r : Remainder) : Type 0 where
  pub text : IsClaimText bytes r.problem r.claim
  pub ends : IsEnd r.problem.problem r.handled r.run r.ending
  pub reduces : Reduction r.problem.problem.setting r.run.entries (IsWithin r.problem.problem)
      r.claim r.rest r.steps

-- the problem, the claim and the end
abbrev pub claim_at_end : Remainder → ClaimAtEnd
claim_at_end r =
    record { problem = r.problem; claim = r.claim; handled = r.handled; ending = r.ending }

-- the lines prove the claim, with these entries needed in this run
pub record AreProof (r : Remainder) (needed : List (ℕ × Trace)) (lines : List Line) : Type 0 where
  pub lists : ListsNeeded r.run.entries (numbers_of r.steps) (map (λ x. x.0) needed)
  pub traces : All (λ x. IsTraceIn r.run (EntryOf x.0) x.1) needed
  pub are : lines ≡ proof_lines r.problem.problem.setting.prime needed r.steps
  pub keeps : IsCertificate (certificate_with (claim_at_end r) lines)
  pub valid : IsValid r.problem.problem.setting r.claim lines
  pub has : HasRepresentation r.problem.problem.setting (IsWithin r.problem.problem) r.claim

-- the element represents the claim, by the labels of this run
pub record Represents (r : Remainder) (limit : ℕ) (m : List (Term Sig)) : Type 0 where
  pub is : IsSum r.problem.problem.setting
      (step_multiples (labels_of r.problem.problem.setting.prime r.run.entries) r.steps) m
  pub lies : IsIn r.problem.problem.setting (element_of m) (IsWithin r.problem.problem)
  pub evaluates : SamePolynomial r.problem.problem.setting
      (evaluation r.problem.problem.setting (element_of m)) r.claim
  pub within : AreWithin (ClaimTerms r.steps r.problem.problem.setting.prime r.run) limit

-- ---- from the records

module _ (bytes : List ℕ) (e : ClaimAtEnd) (is : IsClaimAtEnd bytes e) where
  problem : IsProblem e.problem
  problem = problem_is bytes e.problem e.claim is.text

  the_one : {run : State} {last : Option Monomial}
      → SequentialRun e.problem.problem e.handled run last → run ≡ is.run
  the_one runs =
      (run_unique e.problem.problem (field_of e.problem problem) runs
      (ended_run e.problem.problem is.ends).1).0

  abbrev pub remainder_at : Polynomial → List Step → Remainder
  remainder_at rest steps =
      record {
        problem = e.problem;
        claim = e.claim;
        handled = e.handled;
        run = is.run;
        ending = e.ending;
        rest = rest;
        steps = steps;
      }

  pub is_remainder_at : (rest : Polynomial) (steps : List Step)
      → IsRestOf e.problem.problem e.handled e.claim rest steps
      → IsRemainder bytes (remainder_at rest steps)
  is_remainder_at rest steps r = record {
    text = is.text;
    ends = is.ends;
    reduces =
        subst (λ (run : State). Reduction e.problem.problem.setting run.entries
        (IsWithin e.problem.problem) e.claim rest steps) (the_one r.at.runs) r.reduces;
  }

  pub proof_at_end : (lines : List Line) → IsCertificate (certificate_with e lines)
      → (p : IsProved e.problem e.handled e.claim lines)
      → AreProof (remainder_at [] p.steps) p.needed lines
  proof_at_end lines keeps p = record {
    lists = subst (λ (run : State). ListsNeeded run.entries (numbers_of p.steps)
        (map (λ x. x.0) p.needed)) (the_one p.traces.at.runs) p.traces.lists;
    traces =
        subst (λ (run : State). All (λ x. IsTraceIn run (EntryOf x.0) x.1) p.needed)
        (the_one p.traces.at.runs) p.traces.traces;
    are = p.are;
    keeps = keeps;
    valid = p.valid;
    has = p.has;
  }

  pub terms_at_end : (limit : ℕ) (m : List (Term Sig))
      → (r : IsRepresented e.problem.problem e.handled e.claim limit m)
      → Represents (remainder_at [] r.steps) limit m
  terms_at_end limit m r = record {
    is = subst (λ (run : State). IsSum e.problem.problem.setting
        (step_multiples (labels_of e.problem.problem.setting.prime run.entries) r.steps) m)
        (the_one r.is.at.runs) r.is.is;
    lies = r.lies;
    evaluates = r.evaluates;
    within =
        subst (λ (run : State).
        AreWithin (ClaimTerms r.steps e.problem.problem.setting.prime run) limit)
        (the_one r.is.at.runs) r.is.within;
  }

  pub many_at_end : (limit : ℕ) (named : Listed) (terms : ℕ)
      → (t : IsTooManyOf e.problem.problem e.handled e.claim limit named terms)
      → IsFirstPast (ClaimTerms t.steps e.problem.problem.setting.prime is.run) limit named terms
  many_at_end limit named terms t =
      subst (λ (run : State). IsFirstPast (ClaimTerms t.steps e.problem.problem.setting.prime run)
      limit named terms) (the_one t.many.at.runs) t.many.first

-- ---- to the records

module _ (bytes : List ℕ) (r : Remainder) (is : IsRemainder bytes r) where
  abbrev at : RunAt r.problem.problem r.handled
  at =
      let ended = ended_run r.problem.problem is.ends in
      record { run = r.run; last = ended.0; runs = ended.1 }

  pub is_claim_at_end : IsClaimAtEnd bytes (claim_at_end r)
  is_claim_at_end = record { text = is.text; run = r.run; ends = is.ends }

  pub rest_of : IsRestOf r.problem.problem r.handled r.claim r.rest r.steps
  rest_of = record { at = at; reduces = is.reduces }

  module _ (nothing : r.rest ≡ []) where
    nothing_of : IsRestOf r.problem.problem r.handled r.claim [] r.steps
    nothing_of =
        subst (λ (f : Polynomial). IsRestOf r.problem.problem r.handled r.claim f r.steps) nothing
        rest_of

    pub proved_of : (needed : List (ℕ × Trace)) (lines : List Line) → AreProof r needed lines
        → IsProved r.problem r.handled r.claim lines
    proved_of needed lines p = record {
      steps = r.steps;
      rest = nothing_of;
      needed = needed;
      traces =
          record { at = at; lists = p.lists; traces = p.traces };
      are = p.are;
      keeps = p.keeps.lines;
      valid = p.valid;
      has = p.has;
    }

    pub represented_of : (limit : ℕ) (m : List (Term Sig)) → Represents r limit m
        → IsRepresented r.problem.problem r.handled r.claim limit m
    represented_of limit m t = record {
      steps = r.steps;
      rest = nothing_of;
      is = record { at = at; is = t.is; within = t.within };
      lies = t.lies;
      evaluates = t.evaluates;
    }

    pub many_of : (limit : ℕ) (named : Listed) (terms : ℕ)
        → IsFirstPast (ClaimTerms r.steps r.problem.problem.setting.prime r.run) limit named terms
        → IsTooManyOf r.problem.problem r.handled r.claim limit named terms
    many_of limit named terms many =
        record {
          steps = r.steps;
          rest = nothing_of;
          many = record { at = at; first = many };
        }

  pub unrepresented_of : r.ending ≡ End.complete → r.rest ≢ []
      → ¬ HasRepresentation r.problem.problem.setting (IsWithin r.problem.problem) r.claim
      → IsUnrepresented r.problem.problem r.handled r.ending r.claim r.rest
  unrepresented_of complete some none =
      record { complete = complete; some = some; steps = r.steps; is = rest_of; none = none }

  abbrev pub open_of : (τ : Monomial) → r.ending ≡ End.budget τ → r.rest ≢ []
      → IsOpen r.problem.problem r.handled r.ending r.claim r.rest
  open_of τ budget some =
      record { next = τ; budget = budget; some = some; steps = r.steps; is = rest_of }
