-- The label of an item from those that it needs, and what the first one with too many terms says.
-- The item comes last: first the labels that it needs are made (`fill_fails`), and then its own is
-- summed up (`item_fails`).
use Rattle.nc_algebra.specs.Elements.{Element}
use Rattle.nc_algebra.specs.Monomials.{Monomial, Sig}
use Rattle.nc_algebra.specs.Problems.{IsProblem, NamedProblem}
use Rattle.nc_algebra.specs.Sums.{Term}
use Rattle.nc_cofactor.proofs.Filling.{few_filled}
use Rattle.nc_cofactor.proofs.Firsts.{entry_first}
use Rattle.nc_cofactor.proofs.Needing.{names_within, needs_earlier}
use Rattle.nc_cofactor.proofs.Once.{entry_few, label_few, label_has, trace_once}
use Rattle.nc_cofactor.proofs.Reaching.{need_more}
use Rattle.nc_cofactor.proofs.Runs.{one_run}
use Rattle.nc_cofactor.specs.Expanding.{AreNamedLabels, FailsToExpand, FailsToSum, IsExpanded}
use Rattle.nc_cofactor.specs.Firsts.{AreWithin, IsFirstPast, Precedes}
use Rattle.nc_cofactor.specs.Labels.{HasLabel, IsLabelOf}
use Rattle.nc_cofactor.specs.Needed.{AreFilled, FailsToFill, IsFilledAt, IsMarked, MarksName}
use Rattle.nc_cofactor.specs.Terms.{CountedTerms, CountsFor, EntryTerms, HasTerms, IsNeeded, LabelTerms, Names}
use Rattle.nc_cofactor.specs.Traces.{HasTrace, IsTraceIn}
use Rattle.nc_cofactor.specs.declared.fault.CofactorFault.{CofactorFault}
use Rattle.nc_cofactor.specs.declared.fault.CofactorFault.TheVariants.{OutOfMemory, TooMany}
use Rattle.nc_snapshot.specs.declared.outcome.Listed.{Listed}
use Rattle.nc_snapshot.specs.declared.outcome.Listed.TheVariants.{Claim, Entry as EntryOf, Syzygy as SyzygyOf}
use Rattle.nc_theory.specs.Runs.{SequentialRun}
use Rattle.nc_theory.specs.States.{State, Trace}
use Rattle.std.proofs.Common.{Bool, Err, IfErr, IfOk, List, Ok, Option, Result, arith, inl, inr, length, refl, subst, sym, ℕ, ◌<◌, ◌∙◌, ◌≡◌, ◌≤◌, ◌↔◌, ◌⊎◌}

module _ (P : NamedProblem) (problem : IsProblem P) (n : ℕ) (listed : Listed) (t : Trace)
    (has : HasTrace P.problem n listed t) (marks : List Bool) (limit : ℕ) (exact : (j : ℕ) → 1 ≤ j
    → IsMarked marks j ↔ Names t j) where
  module _ {run : State} {last : Option Monomial} (runs : SequentialRun P.problem n run last) where
    is_there : IsTraceIn run listed t
    is_there =
        subst (λ (r : State). IsTraceIn r listed t) (one_run P problem n has.at.runs runs) has.is

    -- the trace needs what the marks do
    need : {j : ℕ} → IsNeeded run.entries (Names t) j → IsNeeded run.entries (MarksName marks) j
    need needs =
        need_more run.entries (Names t) (MarksName marks)
        (λ j m. let some : 1 ≤ j = (names_within P problem runs listed t j is_there m).0 in
        (some, (exact j some).1 m)) needs

    needed : {j : ℕ} → IsNeeded run.entries (MarksName marks) j → IsNeeded run.entries (Names t) j
    needed reached =
        need_more run.entries (MarksName marks) (Names t) (λ j m. (exact j m.0).0 m.1) reached

    -- what counts is the item, or the marks need it
    counted : (j : ℕ) → CountsFor run listed j → (listed ≡ EntryOf j)
        ⊎ IsNeeded run.entries (MarksName marks) j
    counted j (inl e) = inl e
    counted j (inr (t', is, needs)) =
        inr (need (subst (λ (x : Trace). IsNeeded run.entries (Names x) j)
        (trace_once run listed t' t is is_there) needs))

  -- where not all labels are made
  pub fill_fails : (e : CofactorFault) → FailsToFill P.problem n marks limit e
      → FailsToExpand P.problem n listed limit e
  fill_fails OutOfMemory f = tt
  fill_fails (TooMany (EntryOf k) terms) f =
      record {
        at = f.at;
        first = entry_first (CountedTerms listed P.problem.setting.prime f.at.run) limit k terms (
          inr (t, is_there f.at.runs, needed f.at.runs f.first.has.0),
          f.first.has.1,
        ) f.first.many (λ j i l c. lesser j i l c.1 (counted f.at.runs j c.0));
      }
    where
      lesser : (j i : ℕ) → j < k → EntryTerms P.problem.setting.prime f.at.run j i
          → (listed ≡ EntryOf j) ⊎ IsNeeded f.at.run.entries (MarksName marks) j → i ≤ limit
      lesser j i l ts (inl same) =
          absurd (let b : k < j = needs_earlier P problem f.at.runs j t
          (subst (λ (x : Listed). IsTraceIn f.at.run x t) same (is_there f.at.runs))
          (needed f.at.runs f.first.has.0) in omega (arith, b, l))
      lesser j i l ts (inr reached) = f.first.before (EntryOf j) i l (reached, ts)
  fill_fails (TooMany (SyzygyOf k) terms) f = absurd f.first.has
  fill_fails (TooMany Claim terms) f = absurd f.first.has

  -- ---- the item

  module _ (labels : List (List (Term Sig))) (h : AreFilled P.problem n marks limit labels) where
    pub item_named : AreNamedLabels P.problem n listed t labels
    item_named = record {
      at = h.at;
      is = is_there h.at.runs;
      named = λ j m. let f : IsFilledAt P.problem h.at.run labels limit j =
          h.places j (need h.at.runs (IsNeeded.given m)) in (f.label, f.at, f.is);
    }

    pub item_expands : (m : List (Term Sig)) → HasLabel P.problem n listed m → length m ≤ limit
        → IsExpanded P.problem n listed limit m
    item_expands m l few =
        record {
          at = h.at;
          is = own;
          within = within;
        }
      where
        own : IsLabelOf P.problem.setting h.at.run listed m
        own = subst (λ (r : State). IsLabelOf P.problem.setting r listed m)
            (one_run P problem n l.at.runs h.at.runs) l.is

        entries : (j i : ℕ) → EntryTerms P.problem.setting.prime h.at.run j i → (listed ≡ EntryOf j)
            ⊎ IsNeeded h.at.run.entries (MarksName marks) j → i ≤ limit
        entries j i terms (inl e) =
            let o : IsLabelOf P.problem.setting h.at.run (EntryOf j) m =
            subst (λ (x : Listed). IsLabelOf P.problem.setting h.at.run x m) e own in
            entry_few P.problem.setting h.at.run j m o limit few i terms
        entries j i terms (inr reached) =
            few_filled P problem n marks limit labels h j i reached terms

        within : AreWithin (CountedTerms listed P.problem.setting.prime h.at.run) limit
        within (EntryOf j) i (c, ts) = entries j i ts (counted h.at.runs j c)
        within (SyzygyOf k) i (e, own_terms) =
            label_few P.problem.setting h.at.run listed m own limit few i own_terms
        within Claim i c = absurd c

    pub item_fails : (e : CofactorFault) → FailsToSum P.problem n listed limit e
        → FailsToExpand P.problem n listed limit e
    item_fails OutOfMemory f = tt
    item_fails (TooMany named terms) f =
        record {
          at = h.at;
          first = subst (λ (l : Listed). IsFirstPast
              (CountedTerms listed P.problem.setting.prime h.at.run) limit l terms) (sym f.names)
              (first listed refl);
        }
      where
        own : IsLabelOf P.problem.setting h.at.run listed f.label
        own = subst (λ (r : State). IsLabelOf P.problem.setting r listed f.label)
            (one_run P problem n f.has.at.runs h.at.runs) f.has.is

        own_terms : LabelTerms P.problem.setting.prime h.at.run listed terms
        own_terms = label_has P.problem.setting h.at.run listed f.label own terms f.count

        lesser : (k j i : ℕ) → listed ≡ EntryOf k → j < k
            → EntryTerms P.problem.setting.prime h.at.run j i → (listed ≡ EntryOf j)
            ⊎ IsNeeded h.at.run.entries (MarksName marks) j → i ≤ limit
        lesser k j i e l terms (inl d) =
            absurd (let same : EntryOf k ≡ EntryOf j = sym e ∙ d in let one : k ≡ j = cc in
            omega (arith, one, l))
        lesser k j i e l terms (inr reached) =
            few_filled P problem n marks limit labels h j i reached terms

        entry_alone : (k j : ℕ) → listed ≡ SyzygyOf k → listed ≡ EntryOf j → ⊥
        entry_alone k j e d = let same : SyzygyOf k ≡ EntryOf j = sym e ∙ d in cc

        others : (k j i : ℕ) → listed ≡ SyzygyOf k → EntryTerms P.problem.setting.prime h.at.run j i
            → (listed ≡ EntryOf j) ⊎ IsNeeded h.at.run.entries (MarksName marks) j → i ≤ limit
        others k j i e terms (inl d) = absurd (entry_alone k j e d)
        others k j i e terms (inr reached) =
            few_filled P problem n marks limit labels h j i reached terms

        first : (l : Listed) → listed ≡ l
            → IsFirstPast (CountedTerms listed P.problem.setting.prime h.at.run) limit l terms
        first (EntryOf k) e =
            entry_first (CountedTerms listed P.problem.setting.prime h.at.run) limit k terms (
              inl e,
              at_entry k (subst (λ (l : Listed). LabelTerms P.problem.setting.prime h.at.run l
                  terms) e own_terms),
            ) f.many
            (λ j i l c. lesser k j i e l c.1 (counted h.at.runs j c.0))
          where
            at_entry : (k : ℕ) → LabelTerms P.problem.setting.prime h.at.run (EntryOf k) terms
                → EntryTerms P.problem.setting.prime h.at.run k terms
            at_entry k (α, is, has) =
                subst (λ (β : Element). HasTerms P.problem.setting.prime β terms) is.2 has
        first (SyzygyOf k) e =
            record { has = (e, own_terms); many = f.many; before = before }
          where
            before : (other : Listed) (i : ℕ) → Precedes other (SyzygyOf k)
                → CountedTerms listed P.problem.setting.prime h.at.run other i → i ≤ limit
            before (EntryOf j) i l (c, ts) = others k j i e ts (counted h.at.runs j c)
            before (SyzygyOf j) i l (d, ts) =
                absurd (let same : SyzygyOf k ≡ SyzygyOf j = sym e ∙ d in let one : k ≡ j = cc in
                omega (arith, one, l))
            before Claim i l c = absurd c
        first Claim e =
            absurd (subst (λ (l : Listed). IsTraceIn h.at.run l t) e (is_there h.at.runs))

    -- ---- what the code gives

    pub gives_expanded : (r : Result (List (Term Sig)) CofactorFault)
        → IfOk r (HasLabel P.problem n listed) → IfOk r (λ m. length m ≤ limit)
        → IfOk r (IsExpanded P.problem n listed limit)
    gives_expanded (Ok m) l few = item_expands m l few
    gives_expanded (Err e) l few = tt

    pub gives_fault : (r : Result (List (Term Sig)) CofactorFault)
        → IfErr r (FailsToSum P.problem n listed limit)
        → IfErr r (FailsToExpand P.problem n listed limit)
    gives_fault (Ok m) f = tt
    gives_fault (Err e) f = item_fails e f
