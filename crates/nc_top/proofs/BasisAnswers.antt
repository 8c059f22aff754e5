-- The answer of `basis` by its bytes.
-- It comes from too many bytes, from a fault, from the end of a run, or from a label with too many
-- terms (`Known`), and two answers to the same bytes come from the same (`both_known`). That all
-- labels are within the limit and that one is not exclude each other (`not_both`). `basis_from`
-- states what the theorems on runs give at an end.
use Rattle.nc_algebra.proofs.Orders.{Decided}
use Rattle.nc_algebra.proofs.Primes.{field_from_prime}
use Rattle.nc_algebra.specs.Elements.{Element, Setting}
use Rattle.nc_algebra.specs.Monomials.{Monomial, Sig}
use Rattle.nc_algebra.specs.Primes.{IsField, IsPrime}
use Rattle.nc_algebra.specs.Problems.{IsProblem, NamedProblem, Problem}
use Rattle.nc_algebra.specs.Sums.{Term}
use Rattle.nc_cofactor.proofs.Existence.{labels_exist, one_first}
use Rattle.nc_cofactor.proofs.Once.{one_label}
use Rattle.nc_cofactor.specs.Labels.{IsLabelIn, IsLabelOf}
use Rattle.nc_cofactor.specs.Firsts.{AreWithin, IsFirstPast}
use Rattle.nc_cofactor.specs.Terms.{LabelTerms}
use Rattle.nc_cofactor.specs.Traces.{IsListed}
use Rattle.nc_field.proofs.Primes.{listed_is_prime}
use Rattle.nc_module.specs.Modules.{element_of}
use Rattle.nc_options.specs.declared.options.BasisOptions.{BasisOptions}
use Rattle.nc_options.specs.declared.options.Cofactors.{Cofactors}
use Rattle.nc_options.specs.declared.options.Cofactors.TheVariants.{Full, Omitted, Trace as TraceOf}
use Rattle.nc_print.specs.Printing.{ended}
use Rattle.nc_report.specs.Reports.{counts_line, ending_line, entry_line, numbered, syzygy_line}
use Rattle.nc_theory.proofs.Counting.{counts}
use Rattle.nc_theory.proofs.UntracedBases.{moved_bases_at}
use Rattle.nc_theory.proofs.UntracedEnds.{end_facts}
use Rattle.nc_theory.proofs.UntracedStates.{untraced_twice}
use Rattle.nc_theory.specs.EndBases.{AreCanonical}
use Rattle.nc_theory.specs.Untraced.{untraced}
use Rattle.nc_snapshot.specs.declared.outcome.Listed.{Listed}
use Rattle.nc_snapshot.specs.declared.outcome.Listed.TheVariants.{Claim, Entry as EntryOf, Syzygy as SyzygyOf}
use Rattle.nc_text.proofs.ReadProblems.{reads_problems}
use Rattle.nc_text.specs.Problems.{ProblemText}
use Rattle.nc_theory.proofs.Ends.{end_exists, end_unique}
use Rattle.nc_theory.proofs.Traces.{labels_hold}
use Rattle.nc_theory.proofs.Uniqueness.{entry_canonical, entry_unique}
use Rattle.nc_theory.specs.Labels.{label_at, labels_of, trace_label}
use Rattle.nc_theory.specs.Runs.{End, IsEnd, SequentialRun}
use Rattle.nc_theory.specs.States.{State, Syzygy}
use Rattle.nc_tokens.specs.Kinds.{kind_number}
use Rattle.nc_tokens.specs.declared.fault.TextFault.{TextFault}
use Rattle.nc_top.proofs.Inputs.{bad_text, err_or_ok, same_fault}
use Rattle.nc_top.specs.Basis.{AreLabelled, AreShort, AreShown, IsBasis, IsBasisAnswer, IsProblemText, IsTooManyTerms, reads_relations, status_at}
use Rattle.nc_top.specs.Inputs.{IsBadText, IsTooLarge}
use Rattle.nc_report.specs.Reports.{basis_report, cofactor_lines, entry_lines, syzygy_lines}
use Rattle.nc_top.specs.Reports.{bad_text_report, too_many_report}
use Rattle.nc_top.specs.declared.status.Status.{Status}
use Rattle.nc_top.specs.declared.status.Status.TheVariants.{BadText, Budget, Done, TooLarge, TooMany}
use Rattle.std.proofs.Common.{Err, List, None, Ok, Option, Some, [], ap, ap₂, arith, codes, false, get_or, inl, inr, length, refl, slice_get, subst, subst₂, suc, sym, ℕ, ◌+◌, ◌++◌, ◌-◌, ◌∙◌, ◌∷◌, ◌<◌, ◌≡◌, ◌≤◌, ◌⊎◌}
use Rattle.std.proofs.lemmas.Bool.{cases_lt}
use Rattle.std.proofs.lemmas.Option.{slice_get_cases, slice_get_within}
use Rattle.std.specs.declared.result.Result.{Result}

-- ---- reports

module _ {X : Type 0} (one other : ℕ → X → List (List ℕ)) where
  -- two ways to show items agree where they agree on each
  pub same_numbered : (k : ℕ) (xs : List X)
      → ((i : ℕ) (x : X) → slice_get xs i ≡ Some x → one (k + i) x ≡ other (k + i) x)
      → numbered one k xs ≡ numbered other k xs
  same_numbered k [] same = refl
  same_numbered k (x ∷ xs) same =
      ap₂ (λ (ls ms : List (List ℕ)). ls ++ ms)
      (subst (λ (m : ℕ). one m x ≡ other m x) (omega arith) (same 0 x refl))
      (same_numbered (k + 1) xs (λ i y at. subst (λ (m : ℕ). one m y ≡ other m y) (omega arith)
      (same (suc i) y at)))

module _ (s : Setting) (prime : IsPrime s.prime) (run : State) (labels labels' : Listed → Element)
  where
    -- labels in normal form that are shown are those of the items
    same_label : (listed : Listed) → AreShown Full s run labels → AreShown Full s run labels'
        → IsListed run listed → labels listed ≡ labels' listed
    same_label listed a b is =
        (a listed is).2 ∙ (ap element_of
        ((one_label s prime.above_one run listed).0 (a listed is).0 (b listed is).0 (a listed is).1
        (b listed is).1) ∙ sym (b listed is).2)

    pub same_report : (cofactors : Cofactors) (names : List (List ℕ)) (n : ℕ) (e : End)
        → AreShown cofactors s run labels → AreShown cofactors s run labels'
        → basis_report cofactors names labels n run e ≡ basis_report cofactors names labels' n run e
    same_report Omitted names n e a b = refl
    same_report TraceOf names n e a b = refl
    same_report Full names n e a b =
        ap₂ (λ (es hs : List (List ℕ)). ended
        (ending_line names e ∷ counts_line n run ∷ (es ++ hs)))
        (same_numbered (entry_lines Full names labels) (entry_lines Full names labels') 1
        run.entries
        (λ i x at. ap (λ (l : Element). entry_line names (1 + i) x ∷ cofactor_lines Full names
        x.trace l) (same_label (EntryOf (1 + i)) a b (
          omega (arith),
          omega (arith, slice_get_within run.entries i x at),
        ))))
        (same_numbered (syzygy_lines Full names labels) (syzygy_lines Full names labels') 1
        run.syzygies (λ i x at. ap (λ (l : Element). syzygy_line names (1 + i) x
        ∷ cofactor_lines Full names x.trace l)
        (same_label (SyzygyOf (1 + i)) a b (
          omega (arith),
          omega (arith, slice_get_within run.syzygies i x at),
        ))))

-- ---- what holds at an end

-- the run that ends so
pub ended_run : (P : Problem) {n : ℕ} {run : State} {ending : End} → IsEnd P n run ending
    → (last : Option Monomial) × SequentialRun P n run last
ended_run P (IsEnd.is_complete {last = last} l r none) = (last, r)
ended_run P (IsEnd.is_budget {last = last} e r τ next) = (last, r)

pub prime_of : (P : NamedProblem) → IsProblem P → IsPrime P.problem.setting.prime
prime_of P is = listed_is_prime P.problem.setting.prime is.setting.prime

pub field_of : (P : NamedProblem) → IsProblem P → IsField P.problem.setting.prime
field_of P is = field_from_prime P.problem.setting.prime (prime_of P is)

pub problem_of_text : (bytes : List ℕ) (P : NamedProblem) → IsProblemText bytes P → IsProblem P
problem_of_text bytes P text =
    reads_problems false bytes (record { problem = P; claim = text.claim }) text.read

module _ (bytes : List ℕ) (P : NamedProblem) (text : IsProblemText bytes P) where
  is : IsProblem P
  is = problem_of_text bytes P text

  field : IsField P.problem.setting.prime
  field = field_of P is

  labelled : {n : ℕ} {run : State} {last : Option Monomial} → SequentialRun P.problem n run last
      → AreLabelled P.problem.setting run
  labelled r =
      record {
        entries = (labels_hold P.problem field r).entries;
        syzygies = (labels_hold P.problem field r).syzygies;
      }

  canonical : {n : ℕ} {run : State} {last : Option Monomial} → SequentialRun P.problem n run last
      → AreCanonical P.problem.setting run
  canonical r e k = (entry_canonical P.problem field r e k, entry_unique P.problem field r e k)

  -- the end of the run, with the report on it, is what `basis` answers
  pub basis_from : (options : BasisOptions) (labels : Listed → Element) (n : ℕ) (run : State)
      (ending : End) (report : List ℕ) → IsEnd P.problem n run ending
      → AreShown options.cofactors P.problem.setting run labels
      → AreShort options P.problem.setting run
      → report ≡ basis_report options.cofactors P.alphabet.names labels n run ending
      → IsBasis options bytes ending report
  basis_from options labels n run ending report ends are short written = record {
    problem = P;
    text = text;
    handled = n;
    run = run;
    ends = ends;
    counted = counts P.problem (ended_run P.problem ends).1;
    labelled = labelled (ended_run P.problem ends).1;
    canonical = canonical (ended_run P.problem ends).1;
    bases = moved_bases_at P.problem (untraced run) run (untraced_twice run) ending
        (end_facts P.problem (prime_of P is) n (untraced run) ending
        (record { run = run; ends = ends; stands = refl }));
    labels = labels;
    are = are;
    short = short;
    written = written;
  }

-- ---- one answer

pub same_problem : (bytes : List ℕ) (P Q : NamedProblem) → IsProblemText bytes P
    → IsProblemText bytes Q → P ≡ Q
same_problem bytes P Q a b = ap problem_in (sym a.read ∙ b.read)
  where
    problem_in : Result ProblemText TextFault → NamedProblem
    problem_in (Ok t) = t.problem
    problem_in (Err f) = P

-- two answers to one text are of one problem, and of one end of its run
record AreSame (n m : ℕ) (run run' : State) (e e' : End) : Type 0 where
  handled : n ≡ m
  runs : run ≡ run'
  ends : e ≡ e'

same_ends : (bytes : List ℕ) (P Q : NamedProblem) → IsProblemText bytes P → IsProblemText bytes Q
    → (n m : ℕ) (run run' : State) (e e' : End) → IsEnd P.problem n run e
    → IsEnd Q.problem m run' e' → AreSame n m run run' e e'
same_ends bytes P Q a b n m run run' e e' ends ends' =
    go (end_unique P.problem (field_of P (problem_of_text bytes P a)) ends
    (subst (λ (X : NamedProblem). IsEnd X.problem m run' e') (sym (same_problem bytes P Q a b))
    ends'))
  where
    go : (n ≡ m) × (run ≡ run') × (e ≡ e') → AreSame n m run run' e e'
    go (i, s, k) = record { handled = i; runs = s; ends = k }

same_basis : (options : BasisOptions) (bytes : List ℕ) (e e' : End) (r r' : List ℕ)
    → IsBasis options bytes e r → IsBasis options bytes e' r' → (e ≡ e') × (r ≡ r')
same_basis options bytes e e' r r' a b = (
  same.ends,
  a.written ∙ (same_report a.problem.problem.setting
      (prime_of a.problem (problem_of_text bytes a.problem a.text)) a.run a.labels b.labels
      options.cofactors a.problem.alphabet.names a.handled e a.are moved
      ∙ (other ∙ sym b.written)),
)
  where
    one : a.problem ≡ b.problem
    one = same_problem bytes a.problem b.problem a.text b.text

    same : AreSame a.handled b.handled a.run b.run e e'
    same = same_ends bytes a.problem b.problem a.text b.text a.handled b.handled a.run b.run e e'
        a.ends b.ends

    moved : AreShown options.cofactors a.problem.problem.setting a.run b.labels
    moved = subst₂ (λ (P : NamedProblem) (run : State). AreShown options.cofactors P.problem.setting
        run b.labels) (sym one) (sym same.runs) b.are

    other : basis_report options.cofactors a.problem.alphabet.names b.labels a.handled a.run e
        ≡ basis_report options.cofactors b.problem.alphabet.names b.labels b.handled b.run e'
    other = λ j. basis_report options.cofactors (one j).alphabet.names b.labels (same.handled j)
        (same.runs j) (same.ends j)

same_terms : (options : BasisOptions) (bytes : List ℕ) (l l' : Listed) (n n' : ℕ) (r r' : List ℕ)
    → IsTooManyTerms options bytes l n r → IsTooManyTerms options bytes l' n' r'
    → (TooMany l n ≡ TooMany l' n') × (r ≡ r')
same_terms options bytes l l' n n' r r' a b =
    (ap₂ TooMany named.0 named.1, a.written ∙ (ap₂ too_many_report named.0 named.1 ∙ sym b.written))
  where
    same : AreSame a.handled b.handled a.run b.run a.ending b.ending
    same = same_ends bytes a.problem b.problem a.text b.text a.handled b.handled a.run b.run
        a.ending b.ending a.ends b.ends

    first : IsFirstPast (LabelTerms a.problem.problem.setting.prime a.run) options.limit l' n'
    first = subst₂ (λ (P : NamedProblem) (run : State).
        IsFirstPast (LabelTerms P.problem.setting.prime run) options.limit l' n')
        (sym (same_problem bytes a.problem b.problem a.text b.text))
        (sym same.runs) b.first

    named : (l ≡ l') × (n ≡ n')
    named = (one_first a.problem.problem.setting
        (prime_of a.problem (problem_of_text bytes a.problem a.text)) a.run options.limit).2 l l'
        n n' a.first first

not_both : (options : BasisOptions) (bytes : List ℕ) (e : End) (l : Listed) (n : ℕ) (r r' : List ℕ)
    → IsBasis options bytes e r → IsTooManyTerms options bytes l n r' → ⊥
not_both options bytes e l n r r' a b =
    (one_first b.problem.problem.setting
    (prime_of b.problem (problem_of_text bytes b.problem b.text)) b.run options.limit).1 l n
    within b.first
  where
    same : AreSame a.handled b.handled a.run b.run e b.ending
    same = same_ends bytes a.problem b.problem a.text b.text a.handled b.handled a.run b.run e
        b.ending a.ends b.ends

    within : AreWithin (LabelTerms b.problem.problem.setting.prime b.run) options.limit
    within =
        subst₂ (λ (P : NamedProblem) (run : State).
        AreWithin (LabelTerms P.problem.setting.prime run) options.limit)
        (same_problem bytes a.problem b.problem a.text b.text) same.runs
        (a.short b.full)

-- what an answer comes from: too many bytes, a fault, the end of a run, or a label with too many
-- terms
pub data Known (options : BasisOptions) (bytes : List ℕ) : Status → List ℕ → Type 0 where
  is_large : {report : List ℕ} → IsTooLarge bytes report → Known options bytes TooLarge report
  is_bad : {report : List ℕ} (line kind : ℕ) → IsBadText reads_relations bytes line kind report
      → Known options bytes (BadText line kind) report
  ended_at : {report : List ℕ} (e : End) → IsBasis options bytes e report
      → Known options bytes (status_at e) report
  is_many : {report : List ℕ} (named : Listed) (terms : ℕ)
      → IsTooManyTerms options bytes named terms report
      → Known options bytes (TooMany named terms) report

pub known : (options : BasisOptions) (bytes : List ℕ) (status : Status) (report : List ℕ)
    → IsBasisAnswer options bytes status report → Known options bytes status report
known options bytes Done report h = Known.ended_at End.complete h
known options bytes Budget report (τ, h) = Known.ended_at (End.budget τ) h
known options bytes (BadText line kind) report h = Known.is_bad line kind h
known options bytes TooLarge report h = Known.is_large h
known options bytes (TooMany named terms) report h = Known.is_many named terms h
known options bytes _ report h = absurd h

pub answered : (options : BasisOptions) (bytes : List ℕ) (e : End) (report : List ℕ)
    → IsBasis options bytes e report → IsBasisAnswer options bytes (status_at e) report
answered options bytes End.complete report h = h
answered options bytes (End.budget τ) report h = (τ, h)

module _ (options : BasisOptions) (bytes : List ℕ) where
  both_known : (s s' : Status) (r r' : List ℕ) → Known options bytes s r → Known options bytes s' r'
      → (s ≡ s') × (r ≡ r')
  both_known s s' r r' (Known.is_large a) (Known.is_large b) = (refl, a.written ∙ sym b.written)
  both_known s s' r r' (Known.is_large a) (Known.is_bad l k b) =
      absurd (omega (arith, a.large, b.small))
  both_known s s' r r' (Known.is_large a) (Known.ended_at e b) =
      absurd (omega (arith, a.large, b.text.small))
  both_known s s' r r' (Known.is_large a) (Known.is_many l n b) =
      absurd (omega (arith, a.large, b.text.small))
  both_known s s' r r' (Known.is_bad l k a) (Known.is_large b) =
      absurd (omega (arith, b.large, a.small))
  both_known s s' r r' (Known.is_bad l k a) (Known.is_bad l' k' b) =
      same_fault reads_relations bytes l k l' k' r r' a b
  both_known s s' r r' (Known.is_bad l k a) (Known.ended_at e b) =
      absurd (err_or_ok (sym a.read ∙ b.text.read))
  both_known s s' r r' (Known.is_bad l k a) (Known.is_many l' n b) =
      absurd (err_or_ok (sym a.read ∙ b.text.read))
  both_known s s' r r' (Known.ended_at e a) (Known.is_large b) =
      absurd (omega (arith, b.large, a.text.small))
  both_known s s' r r' (Known.ended_at e a) (Known.is_bad l k b) =
      absurd (err_or_ok (sym b.read ∙ a.text.read))
  both_known s s' r r' (Known.ended_at e a) (Known.ended_at e' b) =
      let same = same_basis options bytes e e' r r' a b in (ap status_at same.0, same.1)
  both_known s s' r r' (Known.ended_at e a) (Known.is_many l n b) =
      absurd (not_both options bytes e l n r r' a b)
  both_known s s' r r' (Known.is_many l n a) (Known.is_large b) =
      absurd (omega (arith, b.large, a.text.small))
  both_known s s' r r' (Known.is_many l n a) (Known.is_bad l' k b) =
      absurd (err_or_ok (sym b.read ∙ a.text.read))
  both_known s s' r r' (Known.is_many l n a) (Known.ended_at e b) =
      absurd (not_both options bytes e l n r' r b a)
  both_known s s' r r' (Known.is_many l n a) (Known.is_many l' n' b) =
      same_terms options bytes l l' n n' r r' a b

  pub one_basis : (s s' : Status) (r r' : List ℕ) → IsBasisAnswer options bytes s r
      → IsBasisAnswer options bytes s' r' → (s ≡ s') × (r ≡ r')
  one_basis s s' r r' a b =
      both_known s s' r r' (known options bytes s r a) (known options bytes s' r' b)

-- ---- each input has an answer

-- labels to show exist
module _ (s : Setting) (prime : IsPrime s.prime) (run : State) where
  decide_within : (k n : ℕ) → Decided ((1 ≤ k) × (k ≤ n))
  decide_within k n = go (cases_lt 0 k) (cases_lt n k)
    where
      go : (0 < k) ⊎ (k ≤ 0) → (n < k) ⊎ (k ≤ n) → Decided ((1 ≤ k) × (k ≤ n))
      go (inl a) (inr b) = inl (omega (arith, a), b)
      go (inr a) d = inr (λ h. omega (arith, a, h.0))
      go (inl a) (inl b) = inr (λ h. omega (arith, b, h.1))

  decide_listed : (listed : Listed) → Decided (IsListed run listed)
  decide_listed (EntryOf k) = decide_within k (length run.entries)
  decide_listed (SyzygyOf k) = decide_within k (length run.syzygies)
  decide_listed Claim = inr (λ h. h)

  item_label : (listed : Listed) → IsListed run listed → (α : Element)
      × IsLabelIn s.prime run listed α
  item_label (EntryOf k) h = (label_at (labels_of s.prime run.entries) k, (h.0, h.1, refl))
  item_label (SyzygyOf k) h = go (slice_get_cases run.syzygies (k - 1)).1
    where
      go : ((g : Syzygy) × (k - 1 < length run.syzygies) × (slice_get run.syzygies (k - 1) ≡ Some g)
          × (get_or run.syzygies (k - 1) g ≡ g))
          ⊎ ((length run.syzygies ≤ k - 1) × (slice_get run.syzygies (k - 1) ≡ None))
          → (α : Element) × IsLabelIn s.prime run (SyzygyOf k) α
      go (inl (g, within, at, same)) = (
        trace_label s.prime (labels_of s.prime run.entries) g.trace,
        (g.trace, (g, h.0, at, refl), refl),
      )
      go (inr (past, none)) = absurd (omega (arith, past, h.0, h.1))
  item_label Claim h = absurd h

  label_from : (listed : Listed) → IsListed run listed → (m : List (Term Sig))
      × IsLabelOf s run listed m
  label_from listed h =
      labels_exist s prime run listed (item_label listed h).0 (item_label listed h).1

  labels_by : (listed : Listed) → Decided (IsListed run listed) → Element
  labels_by listed (inl h) = element_of (label_from listed h).0
  labels_by listed (inr n) = []

  are_by : (listed : Listed) (d : Decided (IsListed run listed)) → IsListed run listed
      → (m : List (Term Sig)) × IsLabelOf s run listed m × (labels_by listed d ≡ element_of m)
  unfolding label_from labels_by
  are_by listed (inl h) k = ((label_from listed h).0, (label_from listed h).1, refl)
  are_by listed (inr n) k = absurd (n k)

  some_labels : Listed → Element
  some_labels listed = labels_by listed (decide_listed listed)

  some_are : (cofactors : Cofactors) → AreShown cofactors s run some_labels
  unfolding some_labels labels_by
  some_are Omitted = tt
  some_are TraceOf = tt
  some_are Full = λ listed k. are_by listed (decide_listed listed) k

decide_full : (cofactors : Cofactors) → Decided (cofactors ≡ Full)
decide_full Omitted = inr (λ e. absurd cc)
decide_full TraceOf = inr (λ e. absurd cc)
decide_full Full = inl refl

pub basis_answer : (options : BasisOptions) (bytes : List ℕ) → (status : Status) × (report : List ℕ)
    × IsBasisAnswer options bytes status report
basis_answer options bytes = by_size (cases_lt 16777216 (length bytes))
  where
    Answer : Type 0
    Answer = (status : Status) × (report : List ℕ) × IsBasisAnswer options bytes status report

    by_read : (r : Result ProblemText TextFault) → length bytes ≤ 16777216
        → reads_relations bytes ≡ r → Answer
    by_read (Err fault) small read = (
      BadText fault.line (kind_number fault.kind),
      bad_text_report fault.line (kind_number fault.kind),
      bad_text reads_relations bytes fault small read,
    )
    by_read (Ok t) small read =
        go (end_exists P.problem (field_of P (problem_of_text bytes P text)))
      where
        P : NamedProblem
        P = t.problem

        text : IsProblemText bytes P
        text = record { small = small; claim = t.claim; read = read }

        prime : IsPrime P.problem.setting.prime
        prime = prime_of P (problem_of_text bytes P text)

        listed_all : (n : ℕ) (run : State) (e : End) → IsEnd P.problem n run e
            → AreShort options P.problem.setting run → Answer
        listed_all n run e ends short =
            let labels : Listed → Element = some_labels P.problem.setting prime run in
            let report : List ℕ =
            basis_report options.cofactors P.alphabet.names labels n run e in (
              status_at e,
              report,
              answered options bytes e report
                  (basis_from bytes P text options labels n run e report ends
                  (some_are P.problem.setting prime run options.cofactors) short refl),
            )

        go : (n : ℕ) × (run : State) × (e : End) × IsEnd P.problem n run e → Answer
        go (n, run, e, ends) = by_kind (decide_full options.cofactors)
          where
            by_limit : options.cofactors ≡ Full
                → AreWithin (LabelTerms P.problem.setting.prime run) options.limit
                ⊎ ((named : Listed) × (terms : ℕ)
                × IsFirstPast (LabelTerms P.problem.setting.prime run) options.limit named terms)
                → Answer
            by_limit full (inl within) = listed_all n run e ends (λ f. within)
            by_limit full (inr (named, terms, first)) = (
              TooMany named terms,
              too_many_report named terms,
              record {
                full = full;
                problem = P;
                text = text;
                handled = n;
                run = run;
                ending = e;
                ends = ends;
                first = first;
                written = refl;
              },
            )

            by_kind : Decided (options.cofactors ≡ Full) → Answer
            by_kind (inl full) =
                by_limit full (one_first P.problem.setting prime run options.limit).0
            by_kind (inr other) = listed_all n run e ends (λ f. absurd (other f))

    by_size : (16777216 < length bytes) ⊎ (length bytes ≤ 16777216) → Answer
    by_size (inl large) = (TooLarge, codes "too large\n", record { large = large; written = refl })
    by_size (inr small) = by_read (reads_relations bytes) small refl
