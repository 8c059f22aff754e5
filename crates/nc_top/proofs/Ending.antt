-- The answer of a run that came to its end.
-- The labels that were made are those of the items (`among`), so the report of the body is that of
-- the run (`answer_at`, `many_at`).
use Rattle.nc_algebra.specs.Elements.{Setting}
use Rattle.nc_algebra.specs.Monomials.{Sig}
use Rattle.nc_algebra.specs.Problems.{NamedProblem}
use Rattle.nc_algebra.specs.Sums.{Term}
use Rattle.nc_cofactor.specs.Labels.{IsLabelOf}
use Rattle.nc_cofactor.specs.Traces.{IsListed}
use Rattle.nc_cofactor.specs.Firsts.{IsFirstPast}
use Rattle.nc_cofactor.specs.Terms.{LabelTerms}
use Rattle.nc_desk.specs.Ends.{IsEndAt}
use Rattle.nc_module.specs.Modules.{element_of}
use Rattle.nc_options.specs.declared.options.BasisOptions.{BasisOptions}
use Rattle.nc_options.specs.declared.options.Cofactors.{Cofactors}
use Rattle.nc_options.specs.declared.options.Cofactors.TheVariants.{Full}
use Rattle.nc_snapshot.specs.Snapshots.{IsSnapshot, Snapshot}
use Rattle.nc_snapshot.specs.declared.outcome.Listed.{Listed}
use Rattle.nc_snapshot.specs.declared.outcome.Listed.TheVariants.{Claim, Entry as EntryOf, Syzygy as SyzygyOf}
use Rattle.nc_theory.specs.Runs.{End}
use Rattle.nc_theory.specs.States.{State}
use Rattle.nc_top.proofs.BasisAnswers.{answered, basis_from, ended_run}
use Rattle.nc_report.proofs.Showing.{entries_count, one_run, syzygies_count}
use Rattle.nc_top.specs.Basis.{AreShort, AreShown, IsBasisAnswer, IsProblemText, IsTooManyTerms, status_at}
use Rattle.nc_report.specs.Reports.{basis_report}
use Rattle.nc_top.specs.Reports.{too_many_report}
use Rattle.nc_report.specs.Shown.{AreAllLabels, IsRunAt, IsShownOf, kind_of, label_among, labels_in}
use Rattle.nc_report.specs.declared.shown.Shown.{Shown}
use Rattle.nc_report.specs.declared.shown.Shown.TheVariants.{Labelled, Nothing, Traces}
use Rattle.nc_top.specs.declared.status.Status.{Status}
use Rattle.std.proofs.Common.{List, None, Some, [], ap, arith, get_or, inl, inr, length, refl, slice_get, subst, sym, ℕ, ◌-◌, ◌<◌, ◌∙◌, ◌≡◌, ◌≤◌, ◌⊎◌}
use Rattle.std.proofs.lemmas.Option.{get_or_from_slice_get, slice_get_cases}

module _ (s : Snapshot) (h : IsSnapshot s) where
  abbrev setting : Setting
  setting = s.problem.problem.setting

  -- what stands at a place of a list that is long enough
  stands_at : (ms : List (List (Term Sig))) (k : ℕ) → 1 ≤ k → k ≤ length ms
      → slice_get ms (k - 1) ≡ Some (get_or ms (k - 1) [])
  stands_at ms k some within = go (slice_get_cases ms (k - 1)).1
    where
      go : ((m : List (Term Sig)) × (k - 1 < length ms) × (slice_get ms (k - 1) ≡ Some m)
          × (get_or ms (k - 1) m ≡ m)) ⊎ ((length ms ≤ k - 1) × (slice_get ms (k - 1) ≡ None))
          → slice_get ms (k - 1) ≡ Some (get_or ms (k - 1) [])
      go (inl (m, here, at, same)) = at ∙ ap Some (sym (get_or_from_slice_get ms (k - 1) m [] at))
      go (inr (past, none)) = absurd (omega (arith, past, some, within))

  -- the label at a place of a list of labels, for the run that the snapshot stands for
  among_at : (item : ℕ → Listed) (ms : List (List (Term Sig))) (run run' : State) → IsRunAt s run
      → IsRunAt s run'
      → ((k : ℕ) (m : List (Term Sig)) → 1 ≤ k → slice_get ms (k - 1) ≡ Some m
      → IsLabelOf setting run (item k) m)
      → (k : ℕ) → 1 ≤ k → k ≤ length ms
      → (m : List (Term Sig)) × IsLabelOf setting run' (item k) m
      × (element_of (get_or ms (k - 1) []) ≡ element_of m)
  among_at item ms run run' a b are k some within = (
    get_or ms (k - 1) [],
    subst (λ (r : State). IsLabelOf setting r (item k) (get_or ms (k - 1) []))
        (one_run s h run run' a b)
        (are k (get_or ms (k - 1) []) some (stands_at ms k some within)),
    refl,
  )

  among : (entries syzygies : List (List (Term Sig))) → AreAllLabels s entries syzygies
      → (run : State) → IsRunAt s run → (listed : Listed) → IsListed run listed
      → (m : List (Term Sig)) × IsLabelOf setting run listed m
      × (label_among entries syzygies listed ≡ element_of m)
  among entries syzygies are run a (EntryOf k) l =
      let at = are.entries_are.at in
      among_at EntryOf entries at.run run (at.last, at.runs) a are.entries_are.are k l.0
      (omega (arith, l.1, are.each_entry, entries_count s h run a))
  among entries syzygies are run a (SyzygyOf k) l =
      let at = are.syzygies_are.at in
      among_at SyzygyOf syzygies at.run run (at.last, at.runs) a are.syzygies_are.are k l.0
      (omega (arith, l.1, are.each_syzygy, syzygies_count s h run a))
  among entries syzygies are run a Claim l = absurd l

  are_shown : (x : Shown) → IsShownOf s x → (run : State) → IsRunAt s run
      → AreShown (kind_of x) setting run (labels_in x)
  are_shown Nothing of run a = tt
  are_shown Traces of run a = tt
  are_shown (Labelled entries syzygies) of run a =
      λ listed l. among entries syzygies.items of run a listed l

  module _ (options : BasisOptions) (bytes : List ℕ) (P : NamedProblem)
      (text : IsProblemText bytes P) (same : s.problem ≡ P) (ending : End) (e : IsEndAt s ending)
    where
      the_run : IsRunAt s e.run
      the_run = ended_run s.problem.problem e.ends

      here : IsProblemText bytes s.problem
      here = subst (IsProblemText bytes) (sym same) text

      pub answer_at : (x : Shown) → IsShownOf s x → kind_of x ≡ options.cofactors
          → ((run : State) → IsRunAt s run → AreShort options setting run)
          → (status : Status) (report : List ℕ) → status ≡ status_at ending
          → ((run : State) → IsRunAt s run
          → report ≡ basis_report (kind_of x) s.problem.alphabet.names (labels_in x) s.handled
          run ending) → IsBasisAnswer options bytes status report
      answer_at x of kind short status report is written =
          subst (λ (t : Status). IsBasisAnswer options bytes t report) (sym is)
          (answered options bytes ending report
          (basis_from bytes s.problem here options (labels_in x) s.handled e.run ending report
          e.ends
          (subst (λ (k : Cofactors). AreShown k setting e.run (labels_in x)) kind
          (are_shown x of e.run the_run)) (short e.run the_run)
          (subst (λ (k : Cofactors). report ≡ basis_report k s.problem.alphabet.names (labels_in x)
          s.handled e.run ending) kind (written e.run the_run))))

      pub many_at : (named : Listed) (terms : ℕ) (report : List ℕ) → options.cofactors ≡ Full
          → ((run : State) → IsRunAt s run
          → IsFirstPast (LabelTerms setting.prime run) options.limit named terms)
          → report ≡ too_many_report named terms → IsTooManyTerms options bytes named terms report
      many_at named terms report full first written = record {
        full = full;
        problem = s.problem;
        text = here;
        handled = s.handled;
        run = e.run;
        ending = ending;
        ends = e.ends;
        first = first e.run the_run;
        written = written;
      }
