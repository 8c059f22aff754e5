-- The answers of commands by the bytes of their inputs.
-- A run takes at most one byte more than a text may have. Where there are more bytes, those that it
-- took are too many as well, so their answer is that of all bytes (`same_answer`). Where no failure
-- was counted, no fault can end the run (`not_risen`). With as many steps as the bound has
-- monomials each end is complete (`complete_end`).
use Rattle.nc_algebra.specs.Polynomials.{Polynomial}
use Rattle.nc_algebra.specs.Problems.{IsProblem, NamedProblem}
use Rattle.nc_io.specs.Causes.{Rose}
use Rattle.nc_io.specs.Pieces.{TakesWhole}
use Rattle.nc_module.specs.Modules.{element_of}
use Rattle.nc_options.specs.declared.options.Form.{Form}
use Rattle.nc_options.specs.declared.options.Form.TheVariants.{Terms, Lines}
use Rattle.nc_options.specs.declared.options.BasisOptions.{BasisOptions}
use Rattle.nc_options.specs.declared.options.MemberOptions.{MemberOptions}
use Rattle.nc_options.specs.declared.options.Options.{Options}
use Rattle.nc_options.specs.declared.options.Options.TheVariants.{Basis, Check, Demo, Member}
use Rattle.nc_theory.proofs.Named.{complete}
use Rattle.nc_theory.specs.Untraced.{untraced}
use Rattle.nc_theory.specs.Runs.{End, IsEnd}
use Rattle.nc_top.proofs.BasisAnswers.{Known, basis_answer, known, one_basis, prime_of, problem_of_text, same_problem}
use Rattle.nc_top.proofs.CheckAnswers.{check_answer, one_check}
use Rattle.nc_top.proofs.Inputs.{err_or_ok}
use Rattle.nc_top.proofs.MemberAnswers.{member_answer, one_member, same_claims}
use Rattle.nc_top.proofs.Claims.{problem_is}
use Rattle.nc_top.proofs.Remainders.{is_represented}
use Rattle.nc_top.specs.Member.{ClaimAtEnd, IsCertified, IsCertifiedAs, IsClaimText, IsClaimAtEnd, IsMemberAnswer, IsNotBelow, IsTooManyAs, IsTooManyTermsOf}
use Rattle.nc_snapshot.specs.declared.outcome.Listed.{Listed}
use Rattle.nc_top.specs.Basis.{IsBasis, IsComplete, IsProblemText, IsTooManyTerms, status_at}
use Rattle.nc_top.specs.Laws.{CompleteMembers, CompleteRuns, FaultlessRuns, HasEnoughSteps, IsBelow, OneAnswer, RanWell, WroteSome}
use Rattle.nc_top.specs.Run.{HasWritten, IsAnswer, IsReported, LackedMemory, Ran, Runs, StreamUse}
use Rattle.nc_top.specs.declared.status.Status.{Status}
use Rattle.nc_top.specs.declared.status.Status.TheVariants.{BadText, Budget, Done, Invalid, NotBelow, OutOfMemory, ReadFault, TooLarge, TooMany, TooMuch, Usage, WriteFault}
use Rattle.std.proofs.Common.{List, None, Some, [], ap, append-nil, arith, codes, inl, inr, length, length-append, refl, subst, subst₂, sym, ℕ, ◌+◌, ◌++◌, ◌∙◌, ◌<◌, ◌≡◌, ◌≤◌, ◌⊎◌}
use Rattle.std.proofs.lemmas.Bool.{cases_lt}
use Rattle.std.specs.declared.option.Option.{Option}

pub one_answer : OneAnswer
one_answer (Basis options) runs bytes = (basis_answer options bytes, one_basis options bytes)
one_answer (Member options) runs bytes = (member_answer options bytes, one_member options bytes)
one_answer Check runs bytes = (check_answer bytes, one_check bytes)
one_answer (Demo options) runs bytes = absurd runs

-- ---- runs in which nothing fails

-- too many bytes are told as such, whatever the command
large_answer : (options : Options) → Runs options → (bytes : List ℕ) → 16777216 < length bytes
    → IsAnswer options bytes TooLarge (codes "too large\n")
large_answer (Basis options) runs bytes large = record { large = large; written = refl }
large_answer (Member options) runs bytes large = record { large = large; written = refl }
large_answer Check runs bytes large = record { large = large; written = refl }
large_answer (Demo options) runs bytes large = absurd runs

-- the first 16,777,217 bytes have the answer of all bytes
same_answer : (options : Options) → Runs options → (bytes taken : List ℕ) (left : Option (List ℕ))
    → TakesWhole (Some bytes) left taken 16777217
    → (status : Status) (report : List ℕ) → IsAnswer options taken status report
    → IsAnswer options bytes status report
same_answer options runs bytes taken None h status report a = absurd h.taken
same_answer options runs bytes taken (Some ys) h status report a =
    by_end (cases_lt (length taken) 16777217)
  where
    split : bytes ≡ taken ++ ys
    split = h.taken

    by_end : (length taken < 16777217) ⊎ (16777217 ≤ length taken)
        → IsAnswer options bytes status report
    by_end (inl short) =
        let whole : bytes ≡ taken =
        split ∙ (ap (λ (l : List ℕ). taken ++ l) (h.whole short) ∙ append-nil taken) in
        subst (λ (l : List ℕ). IsAnswer options l status report) (sym whole) a
    by_end (inr long) =
        let all : length bytes ≡ length taken + length ys =
        ap length split ∙ length-append taken ys in
        let one =
        (one_answer options runs taken).1 TooLarge status (codes "too large\n") report
        (large_answer options runs taken (omega (arith, long))) a in
        subst (λ (s : Status). IsAnswer options bytes s report) one.0
        (subst (λ (r : List ℕ). IsAnswer options bytes TooLarge r) one.1
        (large_answer options runs bytes (omega (arith, all, long))))

not_risen : (before now : ℕ) → now ≡ before → Rose before now → ⊥
not_risen before now same rose = absurd (omega (arith, same, rose))

module _ (options : Options) (runs : Runs options) (bytes : List ℕ) (source : StreamUse)
    (sink : StreamUse) (result : Status) (well : RanWell options bytes source sink result) where
  abbrev Answers : Type 0
  Answers = LackedMemory sink result ⊎ WroteSome sink (IsAnswer options bytes result)

  by_report : (status : Status) (report : List ℕ) → IsAnswer options bytes status report
      → IsReported sink report status result → Answers
  by_report status report answer (inl (is, written)) =
      inr (
        report,
        subst (λ (s : Status). IsAnswer options bytes s report) (sym is) answer,
        written,
      )
  by_report status report answer (inr (is, rose, front)) =
      absurd (not_risen sink.faults_before sink.faults_after well.wrote_well rose)

  by_run : Ran options source sink result → Answers
  by_run (inl (told, rose, nothing)) =
      absurd (not_risen source.faults_before source.faults_after well.read_well rose)
  by_run (inr (inl memory)) = inl memory
  by_run (inr (inr h)) =
      by_report h.status h.report
      (same_answer options runs bytes h.bytes source.bytes_after
      (subst (λ (l : Option (List ℕ)). TakesWhole l source.bytes_after h.bytes 16777217) well.told
      h.taken) h.status h.report h.answer) h.reported

pub faultless_runs : FaultlessRuns
faultless_runs options runs bytes source sink result well =
    by_run options runs bytes source sink result well well.ran

-- ---- runs with enough steps

module _ (options : BasisOptions) (bytes : List ℕ) (P : NamedProblem) (text : IsProblemText bytes P)
    (enough : HasEnoughSteps P) where
  complete_end : (e : End) (report : List ℕ) → IsBasis options bytes e report → e ≡ End.complete
  complete_end e report h =
      subst Ends (same_problem bytes h.problem P h.text text)
      (λ is few. complete h.problem is (prime_of h.problem is) few h.handled (untraced h.run) e
      (record { run = h.run; ends = h.ends; stands = refl })) (problem_of_text bytes P text)
      enough
    where
      Ends : NamedProblem → Type 0
      Ends Q = IsProblem Q → HasEnoughSteps Q → e ≡ End.complete

  abbrev Whole : Status → List ℕ → Type 0
  Whole status report =
      ((status ≡ Done) × IsComplete options bytes report)
      ⊎ ((named : Listed) × (terms : ℕ) × (status ≡ TooMany named terms)
      × IsTooManyTerms options bytes named terms report)

  whole : (status : Status) (report : List ℕ) → Known options bytes status report
      → Whole status report
  whole status report (Known.is_large large) = absurd (omega (arith, large.large, text.small))
  whole status report (Known.is_bad line kind bad) = absurd (err_or_ok (sym bad.read ∙ text.read))
  whole status report (Known.ended_at e h) =
      let ends : e ≡ End.complete =
      complete_end e report h in inl (
        ap status_at ends,
        subst (λ (x : End). IsBasis options bytes x report) ends h,
      )
  whole status report (Known.is_many named terms h) = inr (named, terms, refl, h)

  module _ (sink : StreamUse) (result : Status) where
    abbrev Wanted : Type 0
    Wanted =
        LackedMemory sink result
        ⊎ (((result ≡ Done) × WroteSome sink (IsComplete options bytes))
        ⊎ ((named : Listed) × (terms : ℕ) × (result ≡ TooMany named terms)
        × WroteSome sink (IsTooManyTerms options bytes named terms)))

    by_whole : (report : List ℕ) → HasWritten sink report → Whole result report → Wanted
    by_whole report written (inl (is, h)) = inr (inl (is, (report, h, written)))
    by_whole report written (inr (named, terms, is, h)) =
        inr (inr (named, terms, is, (report, h, written)))

    by_answer : LackedMemory sink result
        ⊎ WroteSome sink (IsAnswer (Basis options) bytes result) → Wanted
    by_answer (inl memory) = inl memory
    by_answer (inr (report, a, written)) =
        by_whole report written (whole result report (known options bytes result report a))

pub complete_runs : CompleteRuns
complete_runs options bytes P text enough source sink result well =
    by_answer options bytes P text enough sink result
    (faultless_runs (Basis options) tt bytes source sink result well)

-- ---- claims of problems with enough steps

module _ (options : MemberOptions) (bytes : List ℕ) (P : NamedProblem) (claim : Polynomial)
    (text : IsClaimText bytes P claim)
    (enough : HasEnoughSteps P) where
  module _ (e : ClaimAtEnd) (is : IsClaimAtEnd bytes e) where
    same : (e.problem ≡ P) × (e.claim ≡ claim)
    same = same_claims bytes e.problem P e.claim claim is.text text

    here : IsProblem e.problem
    here = problem_is bytes e.problem e.claim is.text

    member_complete : e.ending ≡ End.complete
    member_complete =
        subst Ends (sym same.0) (λ at few ends. complete P at (prime_of P at) few e.handled
        (untraced is.run) e.ending (record { run = is.run; ends = ends; stands = refl })) here
        enough_there is.ends
      where
        Ends : NamedProblem → Type 0
        Ends Q =
            IsProblem Q → HasEnoughSteps Q → IsEnd Q.problem e.handled is.run e.ending
            → e.ending ≡ End.complete

        enough_there : HasEnoughSteps e.problem
        enough_there = subst (λ (Q : NamedProblem). HasEnoughSteps Q) (sym same.0) enough

    moved : IsBelow e.problem e.claim → IsBelow P claim
    moved has =
        subst₂ (λ (Q : NamedProblem) (f : Polynomial). IsBelow Q f) same.0 same.1 has

    moved_back : IsBelow P claim → IsBelow e.problem e.claim
    moved_back has =
        subst₂ (λ (Q : NamedProblem) (f : Polynomial). IsBelow Q f) (sym same.0) (sym same.1) has

  abbrev IsDecided : Status → List ℕ → Type 0
  IsDecided status report =
      (IsBelow P claim × (status ≡ Done) × IsCertified options bytes report)
      ⊎ ((IsBelow P claim × ((named : Listed) × (terms : ℕ) × (status ≡ TooMany named terms)
      × IsTooManyTermsOf options bytes named terms report))
      ⊎ (¬ IsBelow P claim × (status ≡ NotBelow) × IsNotBelow bytes report))

  done_below : (form : Form) (report : List ℕ) → IsCertifiedAs form options.limit bytes report
      → IsBelow P claim
  done_below Terms report t =
      moved t.at_end t.is (element_of t.m, t.represented.lies, t.represented.evaluates)
  done_below Lines report t = moved t.at_end t.is t.proved.has

  many_below : (form : Form) (named : Listed) (terms : ℕ) (report : List ℕ)
      → IsTooManyAs form options.limit bytes named terms report → IsBelow P claim
  many_below Terms named terms report t =
      moved t.at_end t.is (is_represented t.at_end.problem (here t.at_end t.is) t.many.rest.at.runs
      t.at_end.claim [] t.many.steps t.many.rest.reduces refl)
  many_below Lines named terms report t = absurd t

  decided : (status : Status) (report : List ℕ) → IsMemberAnswer options bytes status report
      → IsDecided status report
  decided Done report h = inl (done_below options.form report h, refl, h)
  decided (TooMany named terms) report h =
      inr (inl (many_below options.form named terms report h, (named, terms, refl, h)))
  decided NotBelow report h = inr (inr (λ has. h.left.none (moved_back h.at_end h.is has), refl, h))
  decided Budget report h =
      let both : End.complete ≡ End.budget h.left.next =
      sym (member_complete h.at_end h.is) ∙ h.left.budget in absurd cc
  decided (BadText line kind) report h = absurd (err_or_ok (sym h.read ∙ text.read))
  decided TooLarge report h = absurd (omega (arith, h.large, text.small))
  decided Invalid report h = absurd h
  decided (TooMuch line charge) report h = absurd h
  decided Usage report h = absurd h
  decided ReadFault report h = absurd h
  decided WriteFault report h = absurd h
  decided OutOfMemory report h = absurd h

  module _ (sink : StreamUse) (result : Status) where
    abbrev Decides : Type 0
    Decides =
        LackedMemory sink result
        ⊎ ((IsBelow P claim × (result ≡ Done) × WroteSome sink (IsCertified options bytes))
        ⊎ ((IsBelow P claim × ((named : Listed) × (terms : ℕ) × (result ≡ TooMany named terms)
        × WroteSome sink (IsTooManyTermsOf options bytes named terms)))
        ⊎ (¬ IsBelow P claim × (result ≡ NotBelow) × WroteSome sink (IsNotBelow bytes))))

    by_decided : (report : List ℕ) → HasWritten sink report → IsDecided result report → Decides
    by_decided report written (inl (has, told, h)) = inr (inl (has, told, (report, h, written)))
    by_decided report written (inr (inl (has, (named, terms, told, h)))) =
        inr (inr (inl (has, (named, terms, told, (report, h, written)))))
    by_decided report written (inr (inr (none, told, h))) =
        inr (inr (inr (none, told, (report, h, written))))

    by_member : LackedMemory sink result
        ⊎ WroteSome sink (IsAnswer (Member options) bytes result) → Decides
    by_member (inl memory) = inl memory
    by_member (inr (report, a, written)) = by_decided report written (decided result report a)

pub complete_members : CompleteMembers
complete_members options bytes P claim text enough source sink result well =
    by_member options bytes P claim text enough sink result
    (faultless_runs (Member options) tt bytes source sink result well)
