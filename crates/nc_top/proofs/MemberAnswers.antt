-- The answer of `member` by its bytes.
-- The bytes determine the run, what is left of the claim and what was subtracted
-- (`same_remainders`), and each claim has such a remainder (`remainder_exists`). `Told` is what is
-- told of it: a certificate in one of two forms, a label with too many terms, no representation, or
-- steps that did not suffice.
use Rattle.nc_algebra.specs.Certificates.{Line}
use Rattle.nc_algebra.specs.Lists.{Among}
use Rattle.nc_algebra.specs.Monomials.{Monomial, Sig}
use Rattle.nc_algebra.specs.Polynomials.{Polynomial}
use Rattle.nc_algebra.specs.Problems.{IsProblem, IsWithin, NamedProblem, setting_of}
use Rattle.nc_algebra.specs.Sums.{Term}
use Rattle.nc_cofactor.proofs.Firsts.{not_both}
use Rattle.nc_cofactor.proofs.Existence.{sum_exists}
use Rattle.nc_cofactor.proofs.Terms.{sum_once}
use Rattle.nc_cofactor.specs.Claims.{ClaimTerms, numbers_of}
use Rattle.nc_cofactor.specs.Firsts.{AreWithin, IsFirstPast}
use Rattle.nc_cofactor.specs.Sums.{IsSum}
use Rattle.nc_member.specs.Lines.{proof_lines}
use Rattle.nc_module.specs.Modules.{element_of}
use Rattle.nc_options.specs.declared.options.Form.{Form}
use Rattle.nc_options.specs.declared.options.Form.TheVariants.{Terms, Lines}
use Rattle.nc_options.specs.declared.options.MemberOptions.{MemberOptions}
use Rattle.nc_print.specs.Printing.{certificate_text, terms_text}
use Rattle.nc_snapshot.specs.declared.outcome.Listed.{Listed}
use Rattle.nc_text.specs.Problems.{ProblemText}
use Rattle.nc_theory.proofs.Ends.{end_exists, end_unique}
use Rattle.nc_theory.specs.Bases.{HasRepresentation}
use Rattle.nc_theory.specs.Labels.{labels_of, step_multiples}
use Rattle.nc_theory.specs.Reductions.{Reduction}
use Rattle.nc_theory.specs.Runs.{End, IsEnd, SequentialRun}
use Rattle.nc_theory.specs.States.{State, Step, Trace}
use Rattle.nc_tokens.specs.Kinds.{kind_number}
use Rattle.nc_tokens.specs.declared.fault.TextFault.{TextFault}
use Rattle.nc_top.proofs.BasisAnswers.{ended_run, field_of, prime_of}
use Rattle.nc_top.proofs.Claims.{claim_in, has_claim, problem_is}
use Rattle.nc_top.proofs.Forms.{as_lines, as_terms, as_too_many}
use Rattle.nc_top.proofs.Inputs.{bad_text, err_or_ok, same_fault}
use Rattle.nc_top.proofs.MemberLines.{proof_holds}
use Rattle.nc_top.proofs.Needed.{AreListed, needed_dec, needed_list, needed_once, needed_within, numbers_within}
use Rattle.nc_top.proofs.Remainders.{not_represented, rest_exists, rest_once, terms_evaluate, terms_lie}
use Rattle.nc_top.proofs.AtEnd.{AreProof, IsRemainder, Remainder, Represents, remainder_at, claim_at_end, is_remainder_at, is_claim_at_end, many_at_end, many_of, open_of, proof_at_end, proved_of, represented_of, terms_at_end, unrepresented_of}
use Rattle.nc_top.proofs.Sums.{too_many_once, within_or_first}
use Rattle.nc_top.specs.Inputs.{IsBadText, IsTooLarge}
use Rattle.nc_top.proofs.TermLines.{terms_keep}
use Rattle.nc_top.specs.Member.{IsCertifiedAs, IsClaimText, IsMemberAnswer, IsTooManyAs, certificate_with, reads_claim}
use Rattle.nc_top.specs.Reports.{bad_text_report, not_below_report, too_many_report, undecided_report}
use Rattle.nc_top.specs.declared.status.Status.{Status}
use Rattle.nc_top.specs.declared.status.Status.TheVariants.{BadText, Budget, Done, NotBelow, TooLarge, TooMany}
use Rattle.std.proofs.Common.{Err, List, None, Ok, Option, Some, [], ap, ap₂, arith, codes, inl, inr, length, refl, subst, subst₂, sym, ℕ, ◌<◌, ◌∙◌, ◌∷◌, ◌≡◌, ◌≢◌, ◌≤◌, ◌⊎◌}
use Rattle.std.proofs.lemmas.Bool.{cases_lt}
use Rattle.std.specs.declared.result.Result.{Result}

-- ---- the remainder is one

problem_in : NamedProblem → Result ProblemText TextFault → NamedProblem
problem_in P (Ok t) = t.problem
problem_in P (Err f) = P

claim_or : Polynomial → Option Polynomial → Polynomial
claim_or f (Some g) = g
claim_or f None = f

claim_of : Polynomial → Result ProblemText TextFault → Polynomial
claim_of f (Ok t) = claim_or f t.claim
claim_of f (Err e) = f

pub same_claims : (bytes : List ℕ) (P Q : NamedProblem) (f g : Polynomial) → IsClaimText bytes P f
    → IsClaimText bytes Q g → (P ≡ Q) × (f ≡ g)
unfolding problem_in claim_of claim_or
same_claims bytes P Q f g a b =
    (ap (problem_in P) (sym a.read ∙ b.read), ap (claim_of f) (sym a.read ∙ b.read))

pub same_remainders : (bytes : List ℕ) (r r' : Remainder) → IsRemainder bytes r
    → IsRemainder bytes r' → r ≡ r'
same_remainders bytes r r' a b =
    λ j. record {
      problem = texts.0 j;
      claim = texts.1 j;
      handled = ends.0 j;
      run = ends.1 j;
      ending = ends.2 j;
      rest = rests.0 j;
      steps = rests.1 j;
    }
  where
    texts : (r.problem ≡ r'.problem) × (r.claim ≡ r'.claim)
    texts = same_claims bytes r.problem r'.problem r.claim r'.claim a.text b.text

    is : IsProblem r.problem
    is = problem_is bytes r.problem r.claim a.text

    ends : (r.handled ≡ r'.handled) × (r.run ≡ r'.run) × (r.ending ≡ r'.ending)
    ends = end_unique r.problem.problem (field_of r.problem is) a.ends
        (subst (λ (P : NamedProblem). IsEnd P.problem r'.handled r'.run r'.ending) (sym texts.0)
        b.ends)

    moved : Reduction r.problem.problem.setting r.run.entries (IsWithin r.problem.problem) r'.claim
        r'.rest r'.steps
    moved = subst₂ (λ (P : NamedProblem) (run : State). Reduction P.problem.setting run.entries
        (IsWithin P.problem) r'.claim r'.rest r'.steps) (sym texts.0) (sym ends.1) b.reduces

    rests : (r.rest ≡ r'.rest) × (r.steps ≡ r'.steps)
    rests = rest_once r.problem is (ended_run r.problem.problem a.ends).1 r.claim r.rest r'.rest
        r.steps r'.steps a.reduces (subst
        (λ (f : Polynomial). Reduction r.problem.problem.setting r.run.entries
        (IsWithin r.problem.problem) f r'.rest r'.steps) (sym texts.1) moved)

-- ---- what is told of a remainder

data Told (options : MemberOptions) (r : Remainder) : Status → List ℕ → Type 0 where
  by_terms : {report : List ℕ} → options.form ≡ Terms → r.rest ≡ [] → (m : List (Term Sig))
      → Represents r options.limit m
      → report ≡ terms_text (setting_of r.problem) r.claim (element_of m)
      → Told options r Done report
  by_lines : {report : List ℕ} → options.form ≡ Lines → r.rest ≡ []
      → (needed : List (ℕ × Trace)) (lines : List Line) → AreProof r needed lines
      → report ≡ certificate_text (certificate_with (claim_at_end r) lines)
      → Told options r Done report
  by_many : {report : List ℕ} → options.form ≡ Terms → r.rest ≡ [] → (named : Listed) (terms : ℕ)
      → IsFirstPast (ClaimTerms r.steps r.problem.problem.setting.prime r.run) options.limit named
      terms
      → report ≡ too_many_report named terms → Told options r (TooMany named terms) report
  by_none : {report : List ℕ} → r.ending ≡ End.complete → r.rest ≢ []
      → ¬ HasRepresentation r.problem.problem.setting (IsWithin r.problem.problem) r.claim
      → report ≡ not_below_report r.problem.alphabet.names r.rest → Told options r NotBelow report
  by_budget : {report : List ℕ} (τ : Monomial) → r.ending ≡ End.budget τ → r.rest ≢ []
      → report ≡ undecided_report r.problem.alphabet.names τ r.rest → Told options r Budget report

done : (options : MemberOptions) (bytes : List ℕ) (report : List ℕ) (form : Form)
    → options.form ≡ form → IsCertifiedAs form options.limit bytes report → (r : Remainder)
    × IsRemainder bytes r × Told options r Done report
done options bytes report Terms is t = (
  remainder_at bytes t.at_end t.is [] t.represented.steps,
  is_remainder_at bytes t.at_end t.is [] t.represented.steps t.represented.rest,
  Told.by_terms is refl t.m (terms_at_end bytes t.at_end t.is options.limit t.m t.represented)
      t.written,
)
done options bytes report Lines is t = (
  remainder_at bytes t.at_end t.is [] t.proved.steps,
  is_remainder_at bytes t.at_end t.is [] t.proved.steps t.proved.rest,
  Told.by_lines is refl t.proved.needed t.lines
      (proof_at_end bytes t.at_end t.is t.lines t.keeps t.proved) t.written,
)

too_many : (options : MemberOptions) (bytes : List ℕ) (named : Listed) (terms : ℕ) (report : List ℕ)
    (form : Form) → options.form ≡ form → IsTooManyAs form options.limit bytes named terms report
    → (r : Remainder) × IsRemainder bytes r × Told options r (TooMany named terms) report
too_many options bytes named terms report Terms is t = (
  remainder_at bytes t.at_end t.is [] t.many.steps,
  is_remainder_at bytes t.at_end t.is [] t.many.steps t.many.rest,
  Told.by_many is refl named terms
      (many_at_end bytes t.at_end t.is options.limit named terms t.many) t.written,
)
too_many options bytes named terms report Lines is t = absurd t

-- what an answer comes from: too many bytes, a fault, or the remainder of a claim
data Known (options : MemberOptions) (bytes : List ℕ) : Status → List ℕ → Type 0 where
  is_large : {report : List ℕ} → IsTooLarge bytes report → Known options bytes TooLarge report
  is_bad : {report : List ℕ} (line kind : ℕ) → IsBadText reads_claim bytes line kind report
      → Known options bytes (BadText line kind) report
  remains : {status : Status} {report : List ℕ} → (r : Remainder) × IsRemainder bytes r
      × Told options r status report → Known options bytes status report

known : (options : MemberOptions) (bytes : List ℕ) (status : Status) (report : List ℕ)
    → IsMemberAnswer options bytes status report → Known options bytes status report
known options bytes Done report h = Known.remains (done options bytes report options.form refl h)
known options bytes NotBelow report h =
    Known.remains (
      remainder_at bytes h.at_end h.is h.rest h.left.steps,
      is_remainder_at bytes h.at_end h.is h.rest h.left.steps h.left.is,
      Told.by_none h.left.complete h.left.some h.left.none h.written,
    )
known options bytes Budget report h =
    Known.remains (
      remainder_at bytes h.at_end h.is h.rest h.left.steps,
      is_remainder_at bytes h.at_end h.is h.rest h.left.steps h.left.is,
      Told.by_budget h.left.next h.left.budget h.left.some h.written,
    )
known options bytes (TooMany named terms) report h =
    Known.remains (too_many options bytes named terms report options.form refl h)
known options bytes (BadText line kind) report h = Known.is_bad line kind h
known options bytes TooLarge report h = Known.is_large h
known options bytes _ report h = absurd h

answered : (options : MemberOptions) (bytes : List ℕ) (status : Status) (report : List ℕ)
    (r : Remainder) → IsRemainder bytes r → Told options r status report
    → IsMemberAnswer options bytes status report
answered options bytes s report r is (Told.by_terms form nothing m represents written) =
    as_terms options bytes report form
    (record {
      at_end = claim_at_end r;
      is = is_claim_at_end bytes r is;
      m = m;
      represented = represented_of bytes r is nothing options.limit m represents;
      keeps =
          terms_keep r.problem (problem_is bytes r.problem r.claim is.text)
          (ended_run r.problem.problem is.ends).1 r.claim (claim_in bytes r.problem r.claim is.text)
          is.reduces m represents.is represents.lies;
      written = written;
    })
answered options bytes s report r is (Told.by_lines form nothing needed lines proof written) =
    as_lines options bytes report form
    (record {
      at_end = claim_at_end r;
      is = is_claim_at_end bytes r is;
      lines = lines;
      proved = proved_of bytes r is nothing needed lines proof;
      keeps = proof.keeps;
      written = written;
    })
answered options bytes s report r is (Told.by_many form nothing named terms many written) =
    as_too_many options bytes report named terms form
    (record {
      at_end = claim_at_end r;
      is = is_claim_at_end bytes r is;
      many = many_of bytes r is nothing options.limit named terms many;
      written = written;
    })
answered options bytes s report r is (Told.by_none complete some none written) =
    let at = is_claim_at_end bytes r is in
    let left = unrepresented_of bytes r is complete some none in
    record { at_end = claim_at_end r; is = at; rest = r.rest; left = left; written = written }
answered options bytes s report r is (Told.by_budget τ budget some written) =
    let at = is_claim_at_end bytes r is in
    let left = open_of bytes r is τ budget some in
    record { at_end = claim_at_end r; is = at; rest = r.rest; left = left; written = written }

-- ---- one answer

other_form : {f : Form} → f ≡ Terms → f ≡ Lines → ⊥
other_form a b = let both : Terms ≡ Lines = sym a ∙ b in absurd cc

other_end : (e : End) (τ : Monomial) → e ≡ End.complete → e ≡ End.budget τ → ⊥
other_end e τ a b = let both : End.complete ≡ End.budget τ = sym a ∙ b in absurd cc

one_next : (e : End) (τ τ' : Monomial) → e ≡ End.budget τ → e ≡ End.budget τ' → τ ≡ τ'
one_next e τ τ' a b = let both : End.budget τ ≡ End.budget τ' = sym a ∙ b in cc

module _ (options : MemberOptions) (r : Remainder) (some : 0 < r.problem.problem.setting.prime)
  where
    within_or_many : (m : List (Term Sig)) → Represents r options.limit m
        → (named : Listed) (terms : ℕ)
        → IsFirstPast (ClaimTerms r.steps r.problem.problem.setting.prime r.run) options.limit named
        terms → ⊥
    within_or_many m represents named terms many =
        not_both (ClaimTerms r.steps r.problem.problem.setting.prime r.run) options.limit named
        terms represents.within many

    same_lines : (needed needed' : List (ℕ × Trace)) (lines lines' : List Line)
        → AreProof r needed lines → AreProof r needed' lines' → lines ≡ lines'
    same_lines needed needed' lines lines' a b =
        let one : needed ≡ needed' =
        needed_once r.run (numbers_of r.steps) needed needed' a.lists b.lists a.traces b.traces in
        a.are ∙ (ap (λ (l : List (ℕ × Trace)). proof_lines r.problem.problem.setting.prime l
        r.steps)
        one ∙ sym b.are)

    told_once : (s s' : Status) (report report' : List ℕ) → Told options r s report
        → Told options r s' report' → (s ≡ s') × (report ≡ report')
    told_once s s' q q' (Told.by_terms form nothing m a w)
        (Told.by_terms form' nothing' m' a' w') = (
          refl,
          w ∙ (ap (λ (x : List (Term Sig)). terms_text (setting_of r.problem) r.claim
              (element_of x)) (sum_once r.problem.problem.setting
              (step_multiples (labels_of r.problem.problem.setting.prime r.run.entries) r.steps) m m'
              a.is a'.is) ∙ sym w'),
        )
    told_once s s' q q' (Told.by_terms form nothing m a w)
        (Told.by_lines form' nothing' needed lines b w') = absurd (other_form form form')
    told_once s s' q q' (Told.by_terms form nothing m a w)
        (Told.by_many form' nothing' named terms b w') = absurd (within_or_many m a named terms b)
    told_once s s' q q' (Told.by_terms form nothing m a w) (Told.by_none complete left none w') =
        absurd (left nothing)
    told_once s s' q q' (Told.by_terms form nothing m a w) (Told.by_budget τ budget left w') =
        absurd (left nothing)
    told_once s s' q q' (Told.by_lines form nothing needed lines a w)
        (Told.by_terms form' nothing' m b w') = absurd (other_form form' form)
    told_once s s' q q' (Told.by_lines form nothing needed lines a w)
        (Told.by_lines form' nothing' needed' lines' b w') = (
          refl,
          w ∙ (ap (λ (l : List Line). certificate_text (certificate_with (claim_at_end r) l))
              (same_lines needed needed' lines lines' a b) ∙ sym w'),
        )
    told_once s s' q q' (Told.by_lines form nothing needed lines a w)
        (Told.by_many form' nothing' named terms b w') = absurd (other_form form' form)
    told_once s s' q q' (Told.by_lines form nothing needed lines a w)
        (Told.by_none complete left none w') = absurd (left nothing)
    told_once s s' q q' (Told.by_lines form nothing needed lines a w)
        (Told.by_budget τ budget left w') = absurd (left nothing)
    told_once s s' q q' (Told.by_many form nothing named terms a w)
        (Told.by_terms form' nothing' m b w') = absurd (within_or_many m b named terms a)
    told_once s s' q q' (Told.by_many form nothing named terms a w)
        (Told.by_lines form' nothing' needed lines b w') = absurd (other_form form form')
    told_once s s' q q' (Told.by_many form nothing named terms a w)
        (Told.by_many form' nothing' named' terms' b w') =
        let one =
        too_many_once r.problem.problem.setting some r.run r.steps options.limit named named'
        terms terms' a b in (
          ap₂ TooMany one.0 one.1,
          w ∙ (ap₂ too_many_report one.0 one.1 ∙ sym w'),
        )
    told_once s s' q q' (Told.by_many form nothing named terms a w)
        (Told.by_none complete left none w') = absurd (left nothing)
    told_once s s' q q' (Told.by_many form nothing named terms a w)
        (Told.by_budget τ budget left w') = absurd (left nothing)
    told_once s s' q q' (Told.by_none complete left none w) (Told.by_terms form nothing m a w') =
        absurd (left nothing)
    told_once s s' q q' (Told.by_none complete left none w)
        (Told.by_lines form nothing needed lines a w') = absurd (left nothing)
    told_once s s' q q' (Told.by_none complete left none w)
        (Told.by_many form nothing named terms a w') = absurd (left nothing)
    told_once s s' q q' (Told.by_none complete left none w)
        (Told.by_none complete' left' none' w') =
        (refl, w ∙ sym w')
    told_once s s' q q' (Told.by_none complete left none w) (Told.by_budget τ budget left' w') =
        absurd (other_end r.ending τ complete budget)
    told_once s s' q q' (Told.by_budget τ budget left w) (Told.by_terms form nothing m a w') =
        absurd (left nothing)
    told_once s s' q q' (Told.by_budget τ budget left w)
        (Told.by_lines form nothing needed lines a w') = absurd (left nothing)
    told_once s s' q q' (Told.by_budget τ budget left w)
        (Told.by_many form nothing named terms a w') = absurd (left nothing)
    told_once s s' q q' (Told.by_budget τ budget left w) (Told.by_none complete left' none w') =
        absurd (other_end r.ending τ complete budget)
    told_once s s' q q' (Told.by_budget τ budget left w) (Told.by_budget τ' budget' left' w') = (
      refl,
      w ∙ (ap (λ (σ : Monomial). undecided_report r.problem.alphabet.names σ r.rest)
          (one_next r.ending τ τ' budget budget') ∙ sym w'),
    )

pub some_prime : (P : NamedProblem) → IsProblem P → 0 < P.problem.setting.prime
some_prime P is = omega (arith, (prime_of P is).above_one)

remains_once : (options : MemberOptions) (bytes : List ℕ) (s s' : Status) (report report' : List ℕ)
    (r r' : Remainder) → IsRemainder bytes r → IsRemainder bytes r' → Told options r s report
    → Told options r' s' report' → (s ≡ s') × (report ≡ report')
remains_once options bytes s s' report report' r r' a b told told' =
    told_once options r (some_prime r.problem (problem_is bytes r.problem r.claim a.text)) s s'
    report report' told (subst (λ (x : Remainder). Told options x s' report')
    (sym (same_remainders bytes r r' a b)) told')

module _ (options : MemberOptions) (bytes : List ℕ) where
  both_known : (s s' : Status) (r r' : List ℕ) → Known options bytes s r → Known options bytes s' r'
      → (s ≡ s') × (r ≡ r')
  both_known s s' q q' (Known.is_large a) (Known.is_large b) = (refl, a.written ∙ sym b.written)
  both_known s s' q q' (Known.is_large a) (Known.is_bad l k b) =
      absurd (omega (arith, a.large, b.small))
  both_known s s' q q' (Known.is_large a) (Known.remains (r, b, told)) =
      absurd (omega (arith, a.large, b.text.small))
  both_known s s' q q' (Known.is_bad l k a) (Known.is_large b) =
      absurd (omega (arith, b.large, a.small))
  both_known s s' q q' (Known.is_bad l k a) (Known.is_bad l' k' b) =
      same_fault reads_claim bytes l k l' k' q q' a b
  both_known s s' q q' (Known.is_bad l k a) (Known.remains (r, b, told)) =
      absurd (err_or_ok (sym a.read ∙ b.text.read))
  both_known s s' q q' (Known.remains (r, a, told)) (Known.is_large b) =
      absurd (omega (arith, b.large, a.text.small))
  both_known s s' q q' (Known.remains (r, a, told)) (Known.is_bad l k b) =
      absurd (err_or_ok (sym b.read ∙ a.text.read))
  both_known s s' q q' (Known.remains (r, a, told)) (Known.remains (r', b, told')) =
      remains_once options bytes s s' q q' r r' a b told told'

  pub one_member : (s s' : Status) (r r' : List ℕ) → IsMemberAnswer options bytes s r
      → IsMemberAnswer options bytes s' r' → (s ≡ s') × (r ≡ r')
  one_member s s' r r' a b =
      both_known s s' r r' (known options bytes s r a) (known options bytes s' r' b)

-- ---- each input has an answer

module _ (options : MemberOptions) (bytes : List ℕ) (r : Remainder) (is : IsRemainder bytes r) where
  abbrev TellsSome : Type 0
  TellsSome = (status : Status) × (report : List ℕ) × Told options r status report

  problem : IsProblem r.problem
  problem = problem_is bytes r.problem r.claim is.text

  some : 0 < r.problem.problem.setting.prime
  some = some_prime r.problem problem

  runs : (last : Option Monomial) × SequentialRun r.problem.problem r.handled r.run last
  runs = ended_run r.problem.problem is.ends

  module _ (nothing : r.rest ≡ []) where
    tells_terms : options.form ≡ Terms
        → AreWithin (ClaimTerms r.steps r.problem.problem.setting.prime r.run) options.limit
        ⊎ ((named : Listed) × (terms : ℕ)
        × IsFirstPast (ClaimTerms r.steps r.problem.problem.setting.prime r.run) options.limit named
        terms)
        → TellsSome
    tells_terms form (inl within) =
        go (sum_exists r.problem.problem.setting some
        (step_multiples (labels_of r.problem.problem.setting.prime r.run.entries) r.steps))
      where
        go : (m : List (Term Sig)) × IsSum r.problem.problem.setting
            (step_multiples (labels_of r.problem.problem.setting.prime r.run.entries) r.steps) m
            → TellsSome
        go (m, sum) = (
          Done,
          terms_text (setting_of r.problem) r.claim (element_of m),
          Told.by_terms form nothing m (record {
            is = sum;
            lies = terms_lie r.problem problem runs.1 r.claim r.rest r.steps is.reduces m sum;
            evaluates =
                terms_evaluate r.problem problem runs.1 r.claim r.rest r.steps is.reduces m sum
                nothing;
            within = within;
          }) refl,
        )
    tells_terms form (inr (named, terms, many)) = (
      TooMany named terms,
      too_many_report named terms,
      Told.by_many form nothing named terms many refl,
    )

    numbers : (j : ℕ) → Among j (numbers_of r.steps) → (1 ≤ j) × (j ≤ length r.run.entries)
    numbers =
        numbers_within r.problem.problem.setting r.run.entries (IsWithin r.problem.problem)
        is.reduces

    tells_lines : options.form ≡ Lines → TellsSome
    tells_lines form = go (needed_list r.problem problem runs.1 (numbers_of r.steps) numbers)
      where
        go : (l : List (ℕ × Trace)) × AreListed r.problem problem runs.1 (numbers_of r.steps)
            numbers l → TellsSome
        go (needed, listed) =
            let lines : List Line = proof_lines r.problem.problem.setting.prime needed r.steps in
            let holds =
            proof_holds r.problem problem r.handled r.run runs.0 runs.1 r.claim r.steps
            (claim_in bytes r.problem r.claim is.text)
            (subst (λ (f : Polynomial). Reduction r.problem.problem.setting r.run.entries
            (IsWithin r.problem.problem) r.claim f r.steps) nothing is.reduces) needed
            listed.lists listed.traces in (
              Done,
              certificate_text (certificate_with (claim_at_end r) lines),
              Told.by_lines form nothing needed lines (record {
                lists = listed.lists;
                traces = listed.traces;
                are = refl;
                keeps = record {
                  setting = problem.setting;
                  claim = claim_in bytes r.problem r.claim is.text;
                  lines = holds.0;
                };
                valid = holds.1;
                has = holds.2;
              }) refl,
            )

    tells_member : (form : Form) → options.form ≡ form → TellsSome
    tells_member Terms form =
        tells_terms form (within_or_first r.problem.problem.setting some r.run r.steps options.limit
        (needed_dec r.problem problem runs.1 (numbers_of r.steps) numbers)
        (λ j h. (needed_within r.problem problem runs.1 (numbers_of r.steps) numbers h).1))
    tells_member Lines form = tells_lines form

  tells_left : r.rest ≢ [] → (e : End) → r.ending ≡ e → TellsSome
  tells_left left End.complete ending = (
    NotBelow,
    not_below_report r.problem.alphabet.names r.rest,
    Told.by_none ending left (not_represented r.problem problem r.handled r.run
        (subst (IsEnd r.problem.problem r.handled r.run) ending is.ends) r.claim r.rest r.steps
        is.reduces left) refl,
  )
  tells_left left (End.budget τ) ending = (
    Budget,
    undecided_report r.problem.alphabet.names τ r.rest,
    Told.by_budget τ ending left refl,
  )

  tells_rest : (f : Polynomial) → r.rest ≡ f → TellsSome
  tells_rest [] nothing = tells_member nothing options.form refl
  tells_rest (t ∷ f) left =
      tells_left (λ e. let both : t ∷ f ≡ [] = sym left ∙ e in absurd cc) r.ending refl

  tells : TellsSome
  tells = tells_rest r.rest refl

pub remainder_exists : (bytes : List ℕ) (P : NamedProblem) (claim : Polynomial)
    → IsClaimText bytes P claim → (r : Remainder) × IsRemainder bytes r
remainder_exists bytes P claim text = go (end_exists P.problem (field_of P is))
  where
    is : IsProblem P
    is = problem_is bytes P claim text

    go : (n : ℕ) × (run : State) × (e : End) × IsEnd P.problem n run e → (r : Remainder)
        × IsRemainder bytes r
    go (n, run, e, ends) = by_rest (rest_exists P is (ended_run P.problem ends).1 claim)
      where
        by_rest : (rest : Polynomial) × (steps : List Step)
            × Reduction P.problem.setting run.entries (IsWithin P.problem) claim rest steps
            → (r : Remainder) × IsRemainder bytes r
        by_rest (rest, steps, reduces) = (
          record {
            problem = P;
            claim = claim;
            handled = n;
            run = run;
            ending = e;
            rest = rest;
            steps = steps;
          },
          record { text = text; ends = ends; reduces = reduces },
        )

pub member_answer : (options : MemberOptions) (bytes : List ℕ) → (status : Status)
    × (report : List ℕ) × IsMemberAnswer options bytes status report
member_answer options bytes = by_size (cases_lt 16777216 (length bytes))
  where
    by_remainder : (r : Remainder) × IsRemainder bytes r → (status : Status) × (report : List ℕ)
        × IsMemberAnswer options bytes status report
    by_remainder (r, is) =
        let t = tells options bytes r is in (t.0, t.1, answered options bytes t.0 t.1 r is t.2)

    by_read : (x : Result ProblemText TextFault) → length bytes ≤ 16777216 → reads_claim bytes ≡ x
        → (status : Status) × (report : List ℕ) × IsMemberAnswer options bytes status report
    by_read (Err fault) small read = (
      BadText fault.line (kind_number fault.kind),
      bad_text_report fault.line (kind_number fault.kind),
      bad_text reads_claim bytes fault small read,
    )
    by_read (Ok t) small read =
        let c = has_claim bytes t read in
        by_remainder (remainder_exists bytes t.problem c.0
        (record {
          small = small;
          read = read
              ∙ ap (λ (o : Option Polynomial). Ok (record { problem = t.problem; claim = o }))
              c.1.0;
        }))

    by_size : (16777216 < length bytes) ⊎ (length bytes ≤ 16777216) → (status : Status)
        × (report : List ℕ) × IsMemberAnswer options bytes status report
    by_size (inl large) = (TooLarge, codes "too large\n", record { large = large; written = refl })
    by_size (inr small) = by_read (reads_claim bytes) small refl
