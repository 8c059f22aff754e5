-- What the answers of `member` need of a run that has come to its end: the letters of what is
-- printed have names, and what is printed is the answer. One lemma for each answer gives a record
-- of these facts.
use Rattle.nc_algebra.specs.Certificates.{Line}
use Rattle.nc_algebra.specs.Monomials.{Monomial, Sig}
use Rattle.nc_algebra.specs.Polynomials.{Polynomial}
use Rattle.nc_algebra.specs.Problems.{setting_of}
use Rattle.nc_algebra.specs.Settings.{NamedSetting}
use Rattle.nc_algebra.specs.Sums.{Term}
use Rattle.nc_cofactor.specs.Sums.{IsSum}
use Rattle.nc_desk.specs.Ends.{IsEndAt}
use Rattle.nc_member.specs.Members.{IsRestOf, IsTooManyOf}
use Rattle.nc_module.specs.Modules.{element_of}
use Rattle.nc_print.proofs.Writing.{words_named as parts_named}
use Rattle.nc_print.specs.Printing.{certificate_text, terms_text}
use Rattle.nc_report.proofs.Showing.{one_run}
use Rattle.nc_snapshot.specs.Snapshots.{IsSnapshot, Snapshot}
use Rattle.nc_snapshot.specs.declared.outcome.Listed.{Listed}
use Rattle.nc_theory.specs.Labels.{labels_of, step_multiples}
use Rattle.nc_theory.specs.Runs.{End}
use Rattle.nc_theory.specs.States.{State, Step}
use Rattle.nc_top.proofs.Claims.{claim_in, claim_named, rest_named, terms_left, terms_right}
use Rattle.nc_top.proofs.Forms.{as_lines, as_terms, as_too_many}
use Rattle.nc_top.proofs.TermLines.{terms_keep}
use Rattle.nc_options.specs.declared.options.Form.TheVariants.{Lines, Terms}
use Rattle.nc_top.specs.Asked.{AreLinesOf, AreTermsOf, IsAsked, IsAskedAnswer, LeavesRest, StaysOpen}
use Rattle.nc_top.specs.Member.{ClaimAtEnd, IsClaimAtEnd}
use Rattle.nc_top.specs.Reports.{not_below_report, too_many_report, undecided_report}
use Rattle.nc_top.specs.declared.member.Asked.{Asked}
use Rattle.nc_top.specs.declared.status.Status.TheVariants.{Budget, Done, NotBelow, TooMany}
use Rattle.std.proofs.Common.{All, List, [], ap, length, refl, subst, sym, ℕ, ◌++◌, ◌<◌, ◌∙◌, ◌≡◌}

-- what is written into a report that is empty
pub written_new : (new old text : List ℕ) → new ≡ old ++ text → old ≡ [] → new ≡ text
written_new new old text is empty = is ∙ ap (λ (l : List ℕ). l ++ text) empty

-- the letters of the words have names
abbrev HasNames : List (List ℕ) → Polynomial → Type 0
HasNames names f = All (λ t. All (λ x. x.index < length names) t.key) f

-- ---- the facts

pub record RestFacts (a : Asked) (names : List (List ℕ)) (rest : Polynomial) : Type 0 where
  pub named : HasNames names rest
  pub answer : (report : List ℕ) → report ≡ not_below_report names rest
      → IsAskedAnswer a NotBelow report

pub record OpenFacts (a : Asked) (names : List (List ℕ)) (rest : Polynomial) : Type 0 where
  pub named : HasNames names rest
  pub answer : (τ : Monomial) (report : List ℕ) → End.budget τ ≡ a.finished.now.ending
      → report ≡ undecided_report names τ rest → IsAskedAnswer a Budget report

pub record LinesFacts (a : Asked) (setting : NamedSetting) (lines : List Line) : Type 0 where
  pub claim : HasNames setting.alphabet.names a.claim.now
  pub left : All (λ line. All
      (λ part. All (λ x. x.index < length setting.alphabet.names) part.left) line) lines
  pub right : All (λ line. All
      (λ part. All (λ x. x.index < length setting.alphabet.names) part.right) line) lines
  pub answer : (report : List ℕ)
      → report ≡ certificate_text (record { setting = setting; claim = a.claim.now; lines = lines })
      → IsAskedAnswer a Done report

pub record TermsFacts (a : Asked) (setting : NamedSetting) (m : List (Term Sig)) : Type 0 where
  pub claim : HasNames setting.alphabet.names a.claim.now
  pub left : All (λ t. All (λ x. x.index < length setting.alphabet.names) t.key.left) m
  pub right : All (λ t. All (λ x. x.index < length setting.alphabet.names) t.key.right) m
  pub answer : (report : List ℕ) → report ≡ terms_text setting a.claim.now (element_of m)
      → IsAskedAnswer a Done report

-- ---- how they follow

module _ (a : Asked) (text : IsAsked a) (h : IsSnapshot a.finished.now.snapshot)
    (e : IsEndAt a.finished.now.snapshot a.finished.now.ending) where
  abbrev s : Snapshot
  s = a.finished.now.snapshot

  abbrev p : ℕ
  p = s.problem.problem.setting.prime

  abbrev at_end : ClaimAtEnd
  at_end = record {
    problem = s.problem;
    claim = a.claim.now;
    handled = s.handled;
    ending = a.finished.now.ending;
  }

  is_at_end : IsClaimAtEnd a.bytes.now at_end
  is_at_end = record { text = text; run = e.run; ends = e.ends }

  module _ (names : List (List ℕ)) (same : names ≡ s.problem.alphabet.names) where
    claim_has_names : HasNames names a.claim.now
    claim_has_names =
        subst (λ (ns : List (List ℕ)). HasNames ns a.claim.now) (sym same)
        (claim_named a.bytes.now s.problem a.claim.now text)

    rest_has_names : (rest : Polynomial) (steps : List Step)
        → IsRestOf s.problem.problem s.handled a.claim.now rest steps → HasNames names rest
    rest_has_names rest steps r =
        subst (λ (ns : List (List ℕ)). HasNames ns rest) (sym same)
        (rest_named s.problem h.problem r.at.runs a.claim.now
        (claim_in a.bytes.now s.problem a.claim.now text) r.reduces)

    -- something is left
    pub rest_facts : (rest : Polynomial) → LeavesRest a rest → RestFacts a names rest
    rest_facts rest u = record {
      named = rest_has_names rest u.steps u.is;
      answer = λ report written. record {
        at_end = at_end;
        is = is_at_end;
        rest = rest;
        left = u;
        written = written ∙ ap (λ (ns : List (List ℕ)). not_below_report ns rest) same;
      };
    }

    pub open_facts : (rest : Polynomial) → StaysOpen a rest → OpenFacts a names rest
    open_facts rest o = record {
      named = rest_has_names rest o.steps o.is;
      answer = λ τ report budget written. record {
        at_end = at_end;
        is = is_at_end;
        rest = rest;
        left = o;
        written =
            written ∙ (ap (λ (ns : List (List ℕ)). undecided_report ns τ rest) same
            ∙ ap (λ (σ : Monomial). undecided_report s.problem.alphabet.names σ rest)
            (next τ (budget ∙ o.budget)));
      };
    }
      where
        next : (τ : Monomial) → End.budget τ ≡ End.budget o.next → τ ≡ o.next
        next τ both = cc

  module _ (setting : NamedSetting) (same : setting ≡ setting_of s.problem) where
    same_names : setting.alphabet.names ≡ s.problem.alphabet.names
    same_names = ap (λ (x : NamedSetting). x.alphabet.names) same

    -- form 2
    pub lines_facts : a.options.form ≡ Lines → (lines : List Line) → AreLinesOf a lines
        → LinesFacts a setting lines
    lines_facts form lines proved = record {
      claim = claim_has_names setting.alphabet.names same_names;
      left =
          parts_named (setting_of s.problem) (λ part. part.left) (λ reaches part k. k.left)
          setting.alphabet.names lines lines same_names refl proved.keeps;
      right =
          parts_named (setting_of s.problem) (λ part. part.right) (λ reaches part k. k.right)
          setting.alphabet.names lines lines same_names refl proved.keeps;
      answer = λ report written. as_lines a.options a.bytes.now report form (record {
        at_end = at_end;
        is = is_at_end;
        lines = lines;
        proved = proved;
        keeps = record {
          setting = h.problem.setting;
          claim = claim_in a.bytes.now s.problem a.claim.now text;
          lines = proved.keeps;
        };
        written =
            written ∙ ap (λ (x : NamedSetting). certificate_text
            (record { setting = x; claim = a.claim.now; lines = lines })) same;
      });
    }

    -- form 1
    pub terms_facts : a.options.form ≡ Terms → (m : List (Term Sig)) → AreTermsOf a m
        → TermsFacts a setting m
    terms_facts form m represented = record {
      claim = claim_has_names setting.alphabet.names same_names;
      left =
          subst (λ (ns : List (List ℕ)). All (λ t. All (λ x. x.index < length ns) t.key.left) m)
          (sym same_names) (terms_left s.problem h.problem represented.rest.at.runs a.claim.now
          (claim_in a.bytes.now s.problem a.claim.now text) represented.rest.reduces m sum);
      right =
          subst (λ (ns : List (List ℕ)). All (λ t. All (λ x. x.index < length ns) t.key.right) m)
          (sym same_names) (terms_right s.problem h.problem represented.rest.at.runs a.claim.now
          (claim_in a.bytes.now s.problem a.claim.now text) represented.rest.reduces m sum);
      answer = λ report written. as_terms a.options a.bytes.now report form (record {
        at_end = at_end;
        is = is_at_end;
        m = m;
        represented = represented;
        keeps =
            terms_keep s.problem h.problem represented.rest.at.runs a.claim.now
            (claim_in a.bytes.now s.problem a.claim.now text) represented.rest.reduces m sum
            represented.lies;
        written = written ∙ ap (λ (x : NamedSetting). terms_text x a.claim.now (element_of m)) same;
      });
    }
      where
        sum : IsSum s.problem.problem.setting
            (step_multiples (labels_of p represented.rest.at.run.entries) represented.steps) m
        sum = subst (λ (run : State). IsSum s.problem.problem.setting
            (step_multiples (labels_of p run.entries) represented.steps) m)
            (one_run s h represented.is.at.run represented.rest.at.run (
              represented.is.at.last,
              represented.is.at.runs,
            ) (represented.rest.at.last, represented.rest.at.runs)) represented.is.is

  -- a label, or the representation, has more terms than the limit
  pub too_many_answer : a.options.form ≡ Terms → (named : Listed) (terms : ℕ) (report : List ℕ)
      → IsTooManyOf s.problem.problem s.handled a.claim.now a.options.limit named terms
      → report ≡ too_many_report named terms → IsAskedAnswer a (TooMany named terms) report
  too_many_answer form named terms report many written =
      as_too_many a.options a.bytes.now report named terms form
      (record { at_end = at_end; is = is_at_end; many = many; written = written })
