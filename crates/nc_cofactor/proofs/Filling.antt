-- The labels of the entries that are reached are made from the first one up.
-- `AreFilledTo` is the invariant: the places of the first entries are filled where they are
-- reached. The first label with too many terms is the least that is reached and has too many
-- (`next_fails`).
use Rattle.nc_algebra.specs.Monomials.{Sig}
use Rattle.nc_algebra.specs.Problems.{IsProblem, NamedProblem, Problem}
use Rattle.nc_algebra.specs.Sums.{Term}
use Rattle.nc_cofactor.proofs.Firsts.{entry_first}
use Rattle.nc_cofactor.proofs.Labelled.{problem_field}
use Rattle.nc_cofactor.proofs.Named.{names_earlier}
use Rattle.nc_cofactor.proofs.Needing.{compared, reached_within}
use Rattle.nc_cofactor.proofs.Once.{entry_few}
use Rattle.nc_cofactor.proofs.Places.{earlier_there, last_there}
use Rattle.nc_cofactor.proofs.Runs.{entries_kept, label_terms, one_run}
use Rattle.nc_cofactor.specs.Expanding.{AreNamedLabels, FailsToSum}
use Rattle.nc_cofactor.specs.Firsts.{IsFirstPast}
use Rattle.nc_cofactor.specs.Labels.{IsLabelOf}
use Rattle.nc_cofactor.specs.Needed.{AreFilled, AreFound, FailsToFill, IsFilledAt, IsFound, IsNewLabel, MarkedTerms, MarksName}
use Rattle.nc_cofactor.specs.Terms.{EntryTerms, IsNeeded, Names}
use Rattle.nc_cofactor.specs.Traces.{IsTraceIn, RunAt}
use Rattle.nc_cofactor.specs.declared.fault.CofactorFault.{CofactorFault}
use Rattle.nc_cofactor.specs.declared.fault.CofactorFault.TheVariants.{OutOfMemory, TooMany}
use Rattle.nc_snapshot.proofs.Limits.{snapshot_counts}
use Rattle.nc_snapshot.specs.Snapshots.{IsSnapshot, Snapshot}
use Rattle.nc_snapshot.specs.declared.outcome.Listed.{Listed}
use Rattle.nc_snapshot.specs.declared.outcome.Listed.TheVariants.{Entry as EntryOf}
use Rattle.nc_theory.specs.States.{State, Trace}
use Rattle.std.proofs.Common.{Bool, List, None, Option, Some, [], ap, arith, inl, inr, length, length-append, subst, sym, take, ℕ, ◌+◌, ◌++◌, ◌-◌, ◌<◌, ◌∙◌, ◌∷◌, ◌≡◌, ◌≤◌, ◌⊎◌}
use Rattle.std.proofs.lemmas.List.{append-nil}
use Rattle.std.specs.List.{slice_get}

-- the places of the first entries are filled where they are reached
pub record AreFilledTo (P : Problem) (n : ℕ) (marks : List Bool) (stack : List (Option Trace))
    (labels : List (List (Term Sig))) (limit : ℕ) : Type 0 where
  pub at : RunAt P n
  pub size : length marks ≡ length at.run.entries
  pub height : length labels + length stack ≡ length at.run.entries
  pub slots : (k : ℕ) (o : Option Trace) → length labels < k → k ≤ length at.run.entries
      → slice_get stack (length at.run.entries - k) ≡ Some o → IsFound at.run marks k o
  pub places : (k : ℕ) → 1 ≤ k → k ≤ length labels → IsNeeded at.run.entries (MarksName marks) k
      → IsFilledAt P at.run labels limit k

pub none_filled : (P : Problem) (n : ℕ) (marks : List Bool) (stack : List (Option Trace))
    (labels : List (List (Term Sig))) (limit : ℕ) → labels ≡ [] → AreFound P n marks stack
    → AreFilledTo P n marks stack labels limit
none_filled P n marks stack labels limit none h =
    subst (λ (l : List (List (Term Sig))). AreFilledTo P n marks stack l limit) (sym none) (record {
      at = h.at;
      size = h.size;
      height = omega (arith, h.height);
      slots = λ k o l within at. h.slots k o (omega (arith, l)) within at;
      places = λ k some within. absurd (omega (arith, some, within));
    })

module _ (P : NamedProblem) (problem : IsProblem P) (n : ℕ) (marks : List Bool)
    (labels : List (List (Term Sig))) (limit : ℕ) where
  module _ (stack : List (Option Trace)) (h : AreFilledTo P.problem n marks stack labels limit)
    where
      -- a label in its place
      there : (j : ℕ) → IsNeeded h.at.run.entries (MarksName marks) j → j ≤ length labels
          → (m : List (Term Sig)) × (slice_get labels (j - 1) ≡ Some m)
          × IsLabelOf P.problem.setting h.at.run (EntryOf j) m
      there j reached within =
          let f : IsFilledAt P.problem h.at.run labels limit j =
          h.places j (reached_within P problem h.at.runs marks h.size reached).0 within reached in
          (f.label, f.at, f.is)

      -- each label that is there has few terms
      few_there : (j i : ℕ) → IsNeeded h.at.run.entries (MarksName marks) j → j ≤ length labels
          → EntryTerms P.problem.setting.prime h.at.run j i → i ≤ limit
      few_there j i reached within terms =
          let f : IsFilledAt P.problem h.at.run labels limit j =
          h.places j (reached_within P problem h.at.runs marks h.size reached).0 within reached in
          entry_few P.problem.setting h.at.run j f.label f.is limit f.few i terms

      -- ---- the next entry

      module _ (rest : List (Option Trace)) (o : Option Trace) (popped : stack ≡ rest ++ o ∷ [])
        where
          heights : length labels + (length rest + 1) ≡ length h.at.run.entries
          heights = omega (arith, h.height, ap length popped, length-append rest (o ∷ []))

          slot : IsFound h.at.run marks (length labels + 1) o
          slot =
              let at : slice_get stack (length rest) ≡ Some o =
              subst (λ (l : List (Option Trace)). slice_get l (length rest) ≡ Some o) (sym popped)
              (last_there rest o) in
              h.slots (length labels + 1) o (omega arith) (omega (arith, heights))
              (subst (λ i. slice_get stack i ≡ Some o) (omega (arith, heights)) at)

          -- what its trace names is in its place
          pub slot_named : (x : Trace) → o ≡ Some x
              → AreNamedLabels P.problem n (EntryOf (length labels + 1)) x labels
          slot_named x e =
              let s : IsFound h.at.run marks (length labels + 1) (Some x) =
              subst (IsFound h.at.run marks (length labels + 1)) e slot in
              record {
                at = h.at;
                is = s.0;
                named = λ j m. named j s.0 s.1 m;
              }
            where
              named : (j : ℕ) → IsTraceIn h.at.run (EntryOf (length labels + 1)) x
                  → IsNeeded h.at.run.entries (MarksName marks) (length labels + 1) → Names x j
                  → (m : List (Term Sig)) × (slice_get labels (j - 1) ≡ Some m)
                  × IsLabelOf P.problem.setting h.at.run (EntryOf j) m
              named j (y, some, at, same) reached m =
                  let by : Names y.trace j = subst (λ (z : Trace). Names z j) (sym same) m in
                  let b : (1 ≤ j) × (j < length labels + 1) =
                  names_earlier P.problem (problem_field P problem) h.at.runs (length labels + 1) j y
                  some at by in
                  there j (IsNeeded.through reached y at by) (omega (arith, b.1))

          -- its label is one place more
          pub slot_fills : (m : List (Term Sig))
              → IsNewLabel P.problem n limit (length labels + 1) o m
              → AreFilledTo P.problem n marks rest (labels ++ m ∷ []) limit
          slot_fills m new =
              record {
                at = h.at;
                size = h.size;
                height = omega (arith, heights, longer);
                slots = slots;
                places = λ k some within reached. places k some reached
                    (compared k (length labels + 1)) (omega (arith, within, longer));
              }
            where
              longer : length (labels ++ m ∷ []) ≡ length labels + 1
              longer = length-append labels (m ∷ [])

              slots : (k : ℕ) (y : Option Trace) → length (labels ++ m ∷ []) < k
                  → k ≤ length h.at.run.entries → slice_get rest (length h.at.run.entries - k) ≡ Some y
                  → IsFound h.at.run marks k y
              slots k y l within at =
                  h.slots k y (omega (arith, l, longer)) within
                  (subst (λ (s : List (Option Trace)). slice_get s (length h.at.run.entries - k)
                  ≡ Some y)
                  (sym popped) (earlier_there rest o (length h.at.run.entries - k) y at))

              filled : (x : Option Trace) → IsNewLabel P.problem n limit (length labels + 1) x m
                  → IsFound h.at.run marks (length labels + 1) x
                  → IsNeeded h.at.run.entries (MarksName marks) (length labels + 1)
                  → IsFilledAt P.problem h.at.run (labels ++ m ∷ []) limit (length labels + 1)
              filled None a b reached = absurd (b reached)
              filled (Some x) a b reached = record {
                label = m;
                at = subst (λ i. slice_get (labels ++ m ∷ []) i ≡ Some m) (omega arith)
                    (last_there labels m);
                is = subst (λ (r : State). IsLabelOf P.problem.setting r (EntryOf (length labels + 1))
                    m) (one_run P problem n a.0.at.runs h.at.runs) a.0.is;
                few = a.1;
              }

              places : (k : ℕ) → 1 ≤ k → IsNeeded h.at.run.entries (MarksName marks) k
                  → (k < length labels + 1)
                  ⊎ ((k ≡ length labels + 1) ⊎ (length labels + 1 < k)) → k ≤ length labels + 1
                  → IsFilledAt P.problem h.at.run (labels ++ m ∷ []) limit k
              places k some reached (inl l) within =
                  let f : IsFilledAt P.problem h.at.run labels limit k =
                  h.places k some (omega (arith, l)) reached in
                  record {
                    label = f.label;
                    at = earlier_there labels m (k - 1) f.label f.at;
                    is = f.is;
                    few = f.few;
                  }
              places k some reached (inr (inl e)) within =
                  subst (λ i. IsFilledAt P.problem h.at.run (labels ++ m ∷ []) limit i) (sym e)
                  (filled o new slot
                  (subst (λ i. IsNeeded h.at.run.entries (MarksName marks) i) e reached))
              places k some reached (inr (inr l)) within = absurd (omega (arith, l, within))

          -- where it has too many terms it is the first
          pub slot_fails : (x : Trace) → o ≡ Some x → (e : CofactorFault)
              → FailsToSum P.problem n (EntryOf (length labels + 1)) limit e
              → FailsToFill P.problem n marks limit e
          slot_fails x e OutOfMemory f = tt
          slot_fails x e (TooMany named terms) f = record {
            at = h.at;
            first = subst (λ (l : Listed). IsFirstPast
                (MarkedTerms marks P.problem.setting.prime h.at.run) limit l terms) (sym f.names)
                (entry_first (MarkedTerms marks P.problem.setting.prime h.at.run) limit
                (length labels + 1) terms (
                  s.1,
                  subst (λ i. EntryTerms P.problem.setting.prime h.at.run (length labels + 1) i)
                      (sym f.count) (label_terms P problem n h.at.run (length labels + 1)
                      f.label new),
                ) f.many (λ j i l c. few_there j i c.0 (omega (arith, l)) c.1));
          }
            where
              s : IsFound h.at.run marks (length labels + 1) (Some x)
              s = subst (IsFound h.at.run marks (length labels + 1)) e slot

              new : IsLabelOf P.problem.setting h.at.run (EntryOf (length labels + 1)) f.label
              new = subst (λ (r : State). IsLabelOf P.problem.setting r (EntryOf (length labels + 1))
                  f.label) (one_run P problem n f.has.at.runs h.at.runs) f.has.is

  -- all are there
  pub all_filled : (stack : List (Option Trace)) → stack ≡ []
      → AreFilledTo P.problem n marks stack labels limit → AreFilled P.problem n marks limit labels
  all_filled stack none h = record {
    at = h.at;
    size = h.size;
    places = λ k reached.
        let b : (1 ≤ k) × (k ≤ length h.at.run.entries) =
        reached_within P problem h.at.runs marks h.size reached in
        h.places k b.0 (omega (arith, b.1, h.height, ap length none)) reached;
  }

-- each label that is there has few terms
pub few_filled : (P : NamedProblem) (problem : IsProblem P) (n : ℕ) (marks : List Bool) (limit : ℕ)
    (labels : List (List (Term Sig))) (h : AreFilled P.problem n marks limit labels) (j i : ℕ)
    → IsNeeded h.at.run.entries (MarksName marks) j
    → EntryTerms P.problem.setting.prime h.at.run j i → i ≤ limit
few_filled P problem n marks limit labels h j i reached terms =
    let f : IsFilledAt P.problem h.at.run labels limit j = h.places j reached in
    entry_few P.problem.setting h.at.run j f.label f.is limit f.few i terms

-- ---- the code's loop

-- where nothing was popped
pub emptied : {X : Type 0} (stack rest : List X) (count : ℕ) → stack ≡ rest ++ []
    → rest ≡ take (count - 1) stack → count ≡ 0 → stack ≡ []
emptied stack rest count is front none =
    is ∙ (append-nil rest ∙ (front ∙ ap (λ n. take (n - 1) stack) none))

module _ (s : Snapshot) (is : IsSnapshot s) (marks : List Bool) (labels : List (List (Term Sig)))
    (limit : ℕ) (stack : List (Option Trace))
    (h : AreFilledTo s.problem.problem s.handled marks stack labels limit) where
  -- entries are few
  pub next_few : length labels ≤ 1000000000
  next_few =
      omega (
        arith,
        h.height,
        snapshot_counts s is,
        entries_kept s.problem.problem s.handled s.state is.run,
        ap (λ (r : State). length r.entries)
            (one_run s.problem is.problem s.handled is.run.runs h.at.runs),
      )

  -- where the next label fails
  pub next_fails : (rest : List (Option Trace)) (o : Option Trace) → stack ≡ rest ++ o ∷ []
      → (e : CofactorFault) → (e ≡ OutOfMemory)
      ⊎ ((x : Trace) × (o ≡ Some x) × FailsToSum s.problem.problem s.handled
      (EntryOf (length labels + 1)) limit e)
      → FailsToFill s.problem.problem s.handled marks limit e
  next_fails rest o popped e (inl no_memory) =
      subst (FailsToFill s.problem.problem s.handled marks limit) (sym no_memory) tt
  next_fails rest o popped e (inr (x, i, f)) =
      slot_fails s.problem is.problem s.handled marks labels limit stack h rest o popped x i e f
