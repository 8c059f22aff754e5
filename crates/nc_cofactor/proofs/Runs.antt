-- Labels over one run: places that are filled one after the other, and labels with too many terms.
use Rattle.nc_algebra.specs.Monomials.{Monomial, Sig}
use Rattle.nc_algebra.specs.Problems.{IsProblem, NamedProblem, Problem}
use Rattle.nc_algebra.specs.Sums.{Term}
use Rattle.nc_cofactor.proofs.Firsts.{entry_first}
use Rattle.nc_cofactor.proofs.Labelled.{labelled, problem_field, summable}
use Rattle.nc_cofactor.proofs.Named.{IsAnyNamed, IsSigned, any_named, names_earlier, signed}
use Rattle.nc_cofactor.proofs.Once.{label_count, label_few, label_has}
use Rattle.nc_cofactor.proofs.Places.{pushed}
use Rattle.nc_cofactor.specs.Expanding.{AreNamedLabels, FailsToLabel, FailsToLabelSyzygies, FailsToSum}
use Rattle.nc_cofactor.specs.Firsts.{IsFirstPast, Precedes}
use Rattle.nc_cofactor.specs.Labels.{AreLabels, AreSyzygyLabels, HasLabel, IsLabelIn, IsLabelOf}
use Rattle.nc_cofactor.specs.Sums.{IsSummable, IsTraceSum}
use Rattle.nc_cofactor.specs.Terms.{EntryLabelTerms, EntryTerms, LabelTerms, Names, SyzygyLabelTerms}
use Rattle.nc_cofactor.specs.Traces.{HasTrace, IsTraceIn, RunAt}
use Rattle.nc_cofactor.specs.declared.fault.CofactorFault.{CofactorFault}
use Rattle.nc_cofactor.specs.declared.fault.CofactorFault.TheVariants.{OutOfMemory, TooMany}
use Rattle.nc_theory.specs.Untraced.{IsRunOf, untraced_entry}
use Rattle.nc_snapshot.specs.declared.outcome.Listed.{Listed}
use Rattle.nc_snapshot.specs.declared.outcome.Listed.TheVariants.{Claim, Entry as EntryOf, Syzygy as SyzygyOf}
use Rattle.nc_theory.proofs.Determinism.{run_unique}
use Rattle.nc_theory.specs.Labels.{label_at, labels_of}
use Rattle.nc_theory.specs.Runs.{SequentialRun}
use Rattle.nc_theory.specs.States.{State, Trace}
use Rattle.std.proofs.Common.{List, Option, Some, [], ap, arith, get_or, length, length-append, refl, subst, sym, ℕ, ◌+◌, ◌++◌, ◌-◌, ◌<◌, ◌∙◌, ◌∷◌, ◌≡◌, ◌≤◌}
use Rattle.std.proofs.lemmas.List.{length-map}
use Rattle.std.proofs.lemmas.Option.{slice_get-get_or, slice_get_within}
use Rattle.std.specs.List.{All, slice_get}

-- the number of entries that a snapshot keeps
pub entries_kept : (P : Problem) (n : ℕ) (state : State) (r : IsRunOf P n state)
    → length state.entries ≡ length r.run.entries
entries_kept P n state r =
    ap (λ (x : State). length x.entries) r.stands ∙ length-map r.run.entries untraced_entry

-- the run that a state stands for
abbrev pub run_at : {P : Problem} {n : ℕ} {state : State} → IsRunOf P n state → RunAt P n
run_at r = record { run = r.run; last = r.last; runs = r.runs }

module _ (P : NamedProblem) (problem : IsProblem P) (n : ℕ) where
  pub one_run : {run run' : State} {last last' : Option Monomial}
      → SequentialRun P.problem n run last → SequentialRun P.problem n run' last' → run ≡ run'
  one_run a b = (run_unique P.problem (problem_field P problem) a b).0

  -- ---- one label

  pub can_sum : (listed : Listed) (t : Trace) (labels : List (List (Term Sig)))
      → AreNamedLabels P.problem n listed t labels → IsSummable P.problem.setting labels t
  can_sum listed t labels h =
      summable P problem h.at.runs labels listed t h.is (λ j k. let r = h.named j k in
      record { label = r.0; at = r.1; is = r.2 })

  pub gives_label : (listed : Listed) (t : Trace) (labels : List (List (Term Sig)))
      (m : List (Term Sig)) → AreNamedLabels P.problem n listed t labels
      → IsTraceSum P.problem.setting labels t m → HasLabel P.problem n listed m
  gives_label listed t labels m h sum =
      record {
        at = h.at;
        is = labelled P problem h.at.runs labels listed t m h.is
            (λ j k. let r = h.named j k in record { label = r.0; at = r.1; is = r.2 }) sum;
      }

  -- a label has as many terms as its normal form lists
  pub label_terms : (run : State) (k : ℕ) (m : List (Term Sig))
      → IsLabelOf P.problem.setting run (EntryOf k) m
      → EntryTerms P.problem.setting.prime run k (length m)
  label_terms run k m l =
      label_count P.problem.setting run (EntryOf k) m l
      (label_at (labels_of P.problem.setting.prime run.entries) k) (l.is.0, l.is.1, refl)

  -- ---- labels one after the other

  -- those that are there have few terms
  module _ (labels : List (List (Term Sig))) (kind : ℕ → Listed) (run : State) (k limit : ℕ)
      (few : All (λ m. length m ≤ limit) labels) (next : k ≡ length labels + 1)
      (are : (j : ℕ) (m : List (Term Sig)) → 1 ≤ j → slice_get labels (j - 1) ≡ Some m
      → IsLabelOf P.problem.setting run (kind j) m) where
    few_pushed : (j i : ℕ) → 1 ≤ j → j < k → LabelTerms P.problem.setting.prime run (kind j) i
        → i ≤ limit
    few_pushed j i some l has =
        let m : List (Term Sig) = get_or labels (j - 1) [] in
        let within : j - 1 < length labels = omega (arith, l, next, some) in
        label_few P.problem.setting run (kind j) m
        (are j m some (slice_get-get_or labels (j - 1) [] within)) limit (few (j - 1) [] within) i
        has

  module _ (labels : List (List (Term Sig))) (a : AreLabels P.problem n labels) where
    place : (j : ℕ) → 1 ≤ j → j ≤ length labels → (m : List (Term Sig))
        × (slice_get labels (j - 1) ≡ Some m) × IsLabelOf P.problem.setting a.at.run (EntryOf j) m
    place j some within =
        let at : slice_get labels (j - 1) ≡ Some (get_or labels (j - 1) []) =
        slice_get-get_or labels (j - 1) [] (omega arith) in
        (get_or labels (j - 1) [], at, a.are j (get_or labels (j - 1) []) some at)

    -- those that the next entry's trace names are there
    pub next_named : (k : ℕ) (t : Trace) → HasTrace P.problem n (EntryOf k) t
        → k ≡ length labels + 1 → AreNamedLabels P.problem n (EntryOf k) t labels
    next_named k t h next =
        record { at = a.at; is = is; named = λ j m. there j m is }
      where
        is : IsTraceIn a.at.run (EntryOf k) t
        is = subst (λ (r : State). IsTraceIn r (EntryOf k) t) (one_run h.at.runs a.at.runs) h.is

        there : (j : ℕ) → Names t j → IsTraceIn a.at.run (EntryOf k) t → (m : List (Term Sig))
            × (slice_get labels (j - 1) ≡ Some m) × IsLabelOf P.problem.setting a.at.run (EntryOf j) m
        there j m (e, some, at, same) =
            let b : (1 ≤ j) × (j < k) =
            names_earlier P.problem (problem_field P problem) a.at.runs k j e some at
            (subst (λ (x : Trace). Names x j) (sym same) m) in
            place j b.0 (omega (arith, b.1, next))

    -- and all that a listed item's trace names, where all labels are there
    pub all_named : (listed : Listed) (t : Trace) → HasTrace P.problem n listed t
        → length labels ≡ length a.at.run.entries → AreNamedLabels P.problem n listed t labels
    all_named listed t h all =
        record { at = a.at; is = is; named = there }
      where
        is : IsTraceIn a.at.run listed t
        is = subst (λ (r : State). IsTraceIn r listed t) (one_run h.at.runs a.at.runs) h.is

        there : (j : ℕ) → Names t j → (m : List (Term Sig)) × (slice_get labels (j - 1) ≡ Some m)
            × IsLabelOf P.problem.setting a.at.run (EntryOf j) m
        there j m =
            let g : IsSigned P.problem a.at.run listed t =
            signed P.problem (problem_field P problem) a.at.runs listed t is in
            let x : IsAnyNamed P.problem.setting a.at.run.entries g.signature j =
            any_named P.problem.setting a.at.run.entries g.signature t j g.named m in
            let l : j - 1 < length a.at.run.entries =
            slice_get_within a.at.run.entries (j - 1) x.named.entry x.named.at in
            place j x.named.some (omega (arith, l, x.named.some, all))

    -- one label more
    pub push_label : (k : ℕ) (m : List (Term Sig)) → HasLabel P.problem n (EntryOf k) m
        → k ≡ length labels + 1 → AreLabels P.problem n (labels ++ m ∷ [])
    push_label k m h next =
        record {
          at = a.at;
          few = few;
          are = pushed labels m
              (λ i x. IsLabelOf P.problem.setting a.at.run (EntryOf i) x) k next a.are new;
        }
      where
        new : IsLabelOf P.problem.setting a.at.run (EntryOf k) m
        new = subst (λ (r : State). IsLabelOf P.problem.setting r (EntryOf k) m)
            (one_run h.at.runs a.at.runs) h.is

        few : length (labels ++ m ∷ []) ≤ length a.at.run.entries
        few = omega (arith, length-append labels (m ∷ []), new.is.1, next)

    -- the first one with too many terms
    pub first_fails : (k limit : ℕ) (e : CofactorFault) → All (λ m. length m ≤ limit) labels
        → k ≡ length labels + 1 → FailsToSum P.problem n (EntryOf k) limit e
        → FailsToLabel P.problem n limit e
    first_fails k limit OutOfMemory few next h = tt
    first_fails k limit (TooMany named terms) few next h = record {
      at = a.at;
      first = subst (λ (l : Listed). IsFirstPast
          (EntryLabelTerms P.problem.setting.prime a.at.run) limit l terms) (sym h.names)
          (entry_first (EntryLabelTerms P.problem.setting.prime a.at.run) limit k terms
          (label_has P.problem.setting a.at.run (EntryOf k) h.label new terms h.count) h.many
          lesser);
    }
      where
        new : IsLabelOf P.problem.setting a.at.run (EntryOf k) h.label
        new = subst (λ (r : State). IsLabelOf P.problem.setting r (EntryOf k) h.label)
            (one_run h.has.at.runs a.at.runs) h.has.is

        lesser : (j i : ℕ) → j < k → LabelTerms P.problem.setting.prime a.at.run (EntryOf j) i
            → i ≤ limit
        lesser j i l (α, is, t) =
            few_pushed labels EntryOf a.at.run k limit few next a.are j i is.0 l (α, is, t)

  -- ---- syzygies one after the other

  module _ (labels : List (List (Term Sig))) (a : AreSyzygyLabels P.problem n labels) where
    -- the next one's, in the same run
    next_syzygy : (k : ℕ) (m : List (Term Sig)) → HasLabel P.problem n (SyzygyOf k) m
        → IsLabelOf P.problem.setting a.at.run (SyzygyOf k) m
    next_syzygy k m h =
        subst (λ (r : State). IsLabelOf P.problem.setting r (SyzygyOf k) m) (one_run h.at.runs a.at.runs)
        h.is

    syzygy_within : (k : ℕ) (m : List (Term Sig)) → IsLabelOf P.problem.setting a.at.run (SyzygyOf k) m
        → (1 ≤ k) × (k ≤ length a.at.run.syzygies)
    syzygy_within k m l = within l.is
      where
        within : IsLabelIn P.problem.setting.prime a.at.run (SyzygyOf k) l.label → (1 ≤ k)
            × (k ≤ length a.at.run.syzygies)
        within (t, (h, some, at, same), e) =
            (some, omega (arith, some, slice_get_within a.at.run.syzygies (k - 1) h at))

    -- one label more
    pub push_syzygy : (k : ℕ) (m : List (Term Sig)) → HasLabel P.problem n (SyzygyOf k) m
        → k ≡ length labels + 1 → AreSyzygyLabels P.problem n (labels ++ m ∷ [])
    push_syzygy k m h next = record {
      at = a.at;
      few = omega (
        arith,
        length-append labels (m ∷ []),
        (syzygy_within k m (next_syzygy k m h)).1,
        next,
      );
      are = pushed labels m (λ i x. IsLabelOf P.problem.setting a.at.run (SyzygyOf i) x) k next a.are
          (next_syzygy k m h);
    }

    -- the first one with too many terms
    pub first_syzygy_fails : (k limit : ℕ) (e : CofactorFault) → All (λ m. length m ≤ limit) labels
        → k ≡ length labels + 1 → FailsToSum P.problem n (SyzygyOf k) limit e
        → FailsToLabelSyzygies P.problem n limit e
    first_syzygy_fails k limit OutOfMemory few next h = tt
    first_syzygy_fails k limit (TooMany named terms) few next h = record {
      at = a.at;
      first = subst (λ (l : Listed). IsFirstPast
          (SyzygyLabelTerms P.problem.setting.prime a.at.run) limit l terms) (sym h.names) (record {
            has = label_has P.problem.setting a.at.run (SyzygyOf k) h.label new terms h.count;
            many = h.many;
            before = before;
          });
    }
      where
        new : IsLabelOf P.problem.setting a.at.run (SyzygyOf k) h.label
        new = next_syzygy k h.label h.has

        before : (other : Listed) (i : ℕ) → Precedes other (SyzygyOf k)
            → SyzygyLabelTerms P.problem.setting.prime a.at.run other i → i ≤ limit
        before (EntryOf j) i l c = absurd c
        before (SyzygyOf j) i l (α, (t, (g, some, at, same), e), has) =
            few_pushed labels SyzygyOf a.at.run k limit few next a.are j i some l
            (α, (t, (g, some, at, same), e), has)
        before Claim i l c = absurd c
