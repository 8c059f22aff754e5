-- What is written behind the items of a run.
-- A snapshot stands for one run (`one_run`), whose items differ from its own in traces alone, which
-- the line of an item does not show (`next_lines`, `counts_same`). A trace that was made again is
-- the run's (`trace_in`), and letters have names (`trace_named`, `label_named`).
use Rattle.nc_algebra.specs.Alphabets.{IsWordIn}
use Rattle.nc_algebra.specs.Monomials.{Sig}
use Rattle.nc_algebra.specs.Sums.{Term}
use Rattle.nc_cofactor.proofs.Letters.{cofactors_over as all_over}
use Rattle.nc_cofactor.specs.Labels.{IsLabelOf}
use Rattle.nc_cofactor.specs.Letters.{IsStartIn, IsTraceOver}
use Rattle.nc_cofactor.specs.Traces.{HasTrace, IsTraceIn}
use Rattle.nc_print.specs.Printing.{ended}
use Rattle.nc_report.proofs.Numbered.{written_next}
use Rattle.nc_report.specs.Reports.{counts_line, numbered}
use Rattle.nc_report.specs.Traces.{StartIsNamed}
use Rattle.nc_theory.specs.Untraced.{untraced, untraced_entry, untraced_syzygy}
use Rattle.nc_snapshot.proofs.Snapshots.{snapshot_field, snapshot_prime}
use Rattle.nc_snapshot.specs.Snapshots.{IsSnapshot, Snapshot}
use Rattle.nc_snapshot.specs.declared.outcome.Listed.{Listed}
use Rattle.nc_snapshot.specs.declared.outcome.Listed.TheVariants.{Entry as EntryOf, Syzygy as SyzygyOf}
use Rattle.nc_theory.proofs.Determinism.{run_unique}
use Rattle.nc_theory.specs.States.{Start, State, Trace}
use Rattle.nc_report.proofs.Letters.{named}
use Rattle.nc_report.specs.Letters.{AreTermsNamed}
use Rattle.nc_report.specs.Listings.{all_lines, count_of, first_lines, lines_of_entry, lines_of_syzygy}
use Rattle.nc_report.specs.declared.listing.Items.{Items}
use Rattle.nc_report.specs.declared.listing.Items.TheVariants.{Entries, Syzygies}
use Rattle.nc_report.specs.declared.shown.Listing.{Listing}
use Rattle.nc_report.specs.Shown.{AreAllLabels, IsRunAt, IsTraceNamed}
use Rattle.std.proofs.Common.{All, List, Some, [], ap, append_assoc, arith, length, map, refl, slice_get, subst, suc, sym, take, unwrap_or, zero, ℕ, ◌+◌, ◌++◌, ◌-◌, ◌<◌, ◌∙◌, ◌∷◌, ◌≡◌, ◌≤◌}
use Rattle.std.proofs.lemmas.List.{length-map, take_all}
use Rattle.std.proofs.lemmas.List.Concat.{flat_map-append}
use Rattle.std.proofs.lemmas.Option.{slice_get_within}

module _ (s : Snapshot) (h : IsSnapshot s) where
  -- a snapshot stands for one run
  pub one_run : (run run' : State) → IsRunAt s run → IsRunAt s run' → run ≡ run'
  one_run run run' a b = (run_unique s.problem.problem (snapshot_field s h) a.1 b.1).0

  the_run : IsRunAt s h.run.run
  the_run = (h.run.last, h.run.runs)

  -- the snapshot's state is that run without its traces
  pub stands : (run : State) → IsRunAt s run → s.state ≡ untraced run
  stands run a = h.run.stands ∙ ap untraced (one_run h.run.run run the_run a)

  -- the trace of an item is the one that the run has
  pub trace_in : (listed : Listed) (t : Trace) → HasTrace s.problem.problem s.handled listed t
      → (run : State) → IsRunAt s run → IsTraceIn run listed t
  trace_in listed t has run a =
      subst (λ (r : State). IsTraceIn r listed t)
      (one_run has.at.run run (has.at.last, has.at.runs) a) has.is

  -- ---- letters

  cofactors_over : (run : State) → IsRunAt s run → (listed : Listed) →
      ((t : Trace) → IsTraceIn run listed t → IsTraceOver s.problem.alphabet t)
      × ((m : List (Term Sig)) → IsLabelOf s.problem.problem.setting run listed m
      → All (λ t. IsWordIn s.problem.alphabet t.key.left) m
      × All (λ t. IsWordIn s.problem.alphabet t.key.right) m)
  cofactors_over run a listed =
      all_over s.problem h.problem (snapshot_prime s h) s.handled run a.0 a.1 listed

  pub trace_named : (listed : Listed) (t : Trace) → HasTrace s.problem.problem s.handled listed t
      → IsTraceNamed (length s.problem.alphabet.names) t
  trace_named listed t has = record {
    start = start_named t.start over.start;
    left = λ k d l. named s.problem.alphabet _ (over.left k d l);
    right = λ k d l. named s.problem.alphabet _ (over.right k d l);
  }
    where
      over : IsTraceOver s.problem.alphabet t
      over = (cofactors_over has.at.run (has.at.last, has.at.runs) listed).0 t has.is

      start_named : (x : Start) → IsStartIn s.problem.alphabet x
          → StartIsNamed (length s.problem.alphabet.names) x
      start_named (Start.a_generator i) o = tt
      start_named (Start.a_multiple u j v) o =
          (named s.problem.alphabet u o.0, named s.problem.alphabet v o.1)

  module _ (listed : Listed) (run : State) (a : IsRunAt s run) (m : List (Term Sig))
      (is : IsLabelOf s.problem.problem.setting run listed m) where
    label_named : AreTermsNamed (length s.problem.alphabet.names) m
    label_named = record {
      left = λ k d l. named s.problem.alphabet _ (over.0 k d l);
      right = λ k d l. named s.problem.alphabet _ (over.1 k d l);
    }
      where
        over : All (λ t. IsWordIn s.problem.alphabet t.key.left) m
            × All (λ t. IsWordIn s.problem.alphabet t.key.right) m
        over = (cofactors_over run a listed).1 m is

  -- ---- the labels that were made

  module _ (entries syzygies : List (List (Term Sig))) (are : AreAllLabels s entries syzygies) where
    entries_run : IsRunAt s are.entries_are.at.run
    entries_run = (are.entries_are.at.last, are.entries_are.at.runs)

    syzygies_run : IsRunAt s are.syzygies_are.at.run
    syzygies_run = (are.syzygies_are.at.last, are.syzygies_are.at.runs)

    pub entry_label_named : (k : ℕ) (m : List (Term Sig)) → 1 ≤ k
        → slice_get entries (k - 1) ≡ Some m → AreTermsNamed (length s.problem.alphabet.names) m
    entry_label_named k m some at =
        label_named (EntryOf k) are.entries_are.at.run entries_run m
        (are.entries_are.are k m some at)

    pub syzygy_label_named : (k : ℕ) (m : List (Term Sig)) → 1 ≤ k
        → slice_get syzygies (k - 1) ≡ Some m → AreTermsNamed (length s.problem.alphabet.names) m
    syzygy_label_named k m some at =
        label_named (SyzygyOf k) are.syzygies_are.at.run syzygies_run m
        (are.syzygies_are.are k m some at)

  -- ---- the lines of an item

  module _ (run : State) (a : IsRunAt s run) where
    -- the number of items
    pub entries_count : length s.state.entries ≡ length run.entries
    entries_count =
        ap (λ (t : State). length t.entries) (stands run a) ∙ length-map run.entries untraced_entry

    pub syzygies_count : length s.state.syzygies ≡ length run.syzygies
    syzygies_count =
        ap (λ (t : State). length t.syzygies) (stands run a)
        ∙ length-map run.syzygies untraced_syzygy

    pub count_same : (items : Items) → count_of items s.state ≡ count_of items run
    count_same Entries = entries_count
    count_same Syzygies = syzygies_count

    pub counts_same : counts_line s.handled s.state ≡ counts_line s.handled run
    counts_same =
        ap (counts_line s.handled) (stands run a)
        ∙ rw (length-map run.entries untraced_entry, length-map run.syzygies untraced_syzygy)
        refl

-- the line of an item, and what is shown behind it
pub behind : (old middle new line : List ℕ) (lines : List (List ℕ))
    → middle ≡ old ++ (line ++ 10 ∷ []) → new ≡ middle ++ ended lines
    → new ≡ old ++ ended (line ∷ lines)
behind old middle new line lines one two =
    two ∙ (ap (λ (l : List ℕ). l ++ ended lines) one
    ∙ append_assoc old (line ++ 10 ∷ []) (ended lines))

-- an item of a mapped list stands where the item that it is made of does
mapped_get : {X : Type 0} (f : X → X) (xs : List X) (i : ℕ) (x y : X) → slice_get xs i ≡ Some x
    → slice_get (map f xs) i ≡ Some y → f x ≡ y
mapped_get f [] i x y p q = absurd cc
mapped_get f (z ∷ xs) zero x y p q = ap f (sym (some_same p)) ∙ some_same q
  where
    some_same : {X : Type 0} {x y : X} → Some x ≡ Some y → x ≡ y
    some_same {x = x} e = ap (λ o. unwrap_or o x) e
mapped_get f (z ∷ xs) (suc i) x y p q = mapped_get f xs i x y p q

-- items of a state, which differ from those of the snapshot in traces alone, and their lines
module _ {X : Type 0} (items_of : State → List X) (bare : X → X)
    (line : List (List ℕ) → ℕ → X → List ℕ)
    (alike : (run : State) → items_of (untraced run) ≡ map bare (items_of run))
    (same : (names : List (List ℕ)) (k : ℕ) (x : X) → line names k (bare x) ≡ line names k x)
    (shown : ℕ → X → List (List ℕ)) (names : List (List ℕ)) where
  abbrev pub lines : ℕ → X → List (List ℕ)
  lines k x = line names k x ∷ shown k x

  -- the lines of one more item behind those that were written
  pub next_lines : (s : Snapshot) → IsSnapshot s → (run : State) → IsRunAt s run
      → (n : ℕ) (x0 : X) → 1 ≤ n → slice_get (items_of s.state) (n - 1) ≡ Some x0
      → (names' : List (List ℕ)) → names' ≡ names
      → (before old middle new : List ℕ)
      → old ≡ before ++ ended (numbered lines 1 (take (n - 1) (items_of run)))
      → middle ≡ old ++ (line names' n x0 ++ 10 ∷ [])
      → ((x : X) → slice_get (items_of run) (n - 1) ≡ Some x → new ≡ middle ++ ended (shown n x))
      → new ≡ before ++ ended (numbered lines 1 (take n (items_of run)))
  next_lines s h run a n x0 some at0 names' eq before old middle new so_far one two =
      subst (λ (m : ℕ). new ≡ before ++ ended (numbered lines 1 (take m (items_of run)))) number
      (written_next lines (items_of run) (n - 1) within before old new
      so_far (λ x at. subst (λ (m : ℕ). new ≡ old ++ ended (lines m x)) (sym number)
      (item x (subst (λ (m : ℕ). slice_get (items_of run) (m - 1) ≡ Some x) number at))))
    where
      number : n - 1 + 1 ≡ n
      number = omega (arith, some)

      made : slice_get (map bare (items_of run)) (n - 1) ≡ Some x0
      made =
          subst (λ (xs : List X). slice_get xs (n - 1) ≡ Some x0)
          (ap items_of (stands s h run a) ∙ alike run) at0

      within : n - 1 < length (items_of run)
      within =
          subst (λ (m : ℕ). n - 1 < m) (length-map (items_of run) bare)
          (slice_get_within (map bare (items_of run)) (n - 1) x0 made)

      item : (x : X) → slice_get (items_of run) (n - 1) ≡ Some x → new ≡ old ++ ended (lines n x)
      item x at =
          behind old middle new (line names n x) (shown n x)
          (one ∙ (λ j. old ++ (line (eq j) n (bare_is j) ++ 10 ∷ []))
          ∙ ap (λ (l : List ℕ). old ++ (l ++ 10 ∷ [])) (same names n x)) (two x at)
        where
          bare_is : x0 ≡ bare x
          bare_is = sym (mapped_get bare (items_of run) (n - 1) x x0 at made)

-- the lines of the first items are those of all where there are no more
pub first_all : (l : Listing) (run : State) (items : Items) (n : ℕ) → count_of items run ≤ n
    → first_lines l run items n ≡ all_lines l run items
first_all l run Entries n long = ap (numbered (lines_of_entry l) 1) (take_all n run.entries long)
first_all l run Syzygies n long = ap (numbered (lines_of_syzygy l) 1) (take_all n run.syzygies long)

-- the pieces of a report in a row
pub in_a_row : (old first second third last ending counts : List ℕ) (es hs : List (List ℕ))
    → first ≡ old ++ (ending ++ 10 ∷ []) → second ≡ first ++ (counts ++ 10 ∷ [])
    → third ≡ second ++ ended es → last ≡ third ++ ended hs
    → last ≡ old ++ ended (ending ∷ counts ∷ (es ++ hs))
in_a_row old first second third last ending counts es hs one two three four =
    four ∙ (ap (λ (l : List ℕ). l ++ ended hs)
    (three ∙ ap (λ (l : List ℕ). l ++ ended es)
    (two ∙ ap (λ (l : List ℕ). l ++ (counts ++ 10 ∷ [])) one))
    ∙ simp (flat_map-append, append_assoc))
