-- The traces and labels of listed items are over the alphabet of the problem.
use Rattle.nc_algebra.proofs.Primes.{field_from_prime}
use Rattle.nc_algebra.specs.Alphabets.{IsWordIn}
use Rattle.nc_algebra.specs.Elements.{Element, WordsAre, generator}
use Rattle.nc_algebra.specs.Finite.{IsOver}
use Rattle.nc_algebra.specs.Monomials.{Monomial, Sig, monomial_of}
use Rattle.nc_algebra.specs.Primes.{IsField, IsPrime}
use Rattle.nc_algebra.specs.Problems.{IsProblem, NamedProblem, setting_of}
use Rattle.nc_algebra.specs.Sums.{Term}
use Rattle.nc_algebra.specs.Words.{Letter}
use Rattle.nc_cofactor.proofs.Keys.{all_among, among_all}
use Rattle.nc_cofactor.proofs.Labelled.{label_sum}
use Rattle.nc_cofactor.proofs.Named.{contains_at}
use Rattle.nc_cofactor.proofs.Terms.{listed_counts}
use Rattle.nc_cofactor.specs.Labels.{IsLabelIn, IsLabelOf}
use Rattle.nc_cofactor.specs.Letters.{CofactorsAreOver, IsStartIn, IsTraceOver}
use Rattle.nc_cofactor.specs.Sums.{IsSum}
use Rattle.nc_cofactor.specs.Traces.{IsTraceIn}
use Rattle.nc_theory.proofs.OverAlphabet.{generator_over, word_in}
use Rattle.nc_theory.specs.Named.{alphabet_letters}
use Rattle.nc_snapshot.specs.declared.outcome.Listed.{Listed}
use Rattle.nc_snapshot.specs.declared.outcome.Listed.TheVariants.{Claim, Entry as EntryOf, Syzygy as SyzygyOf}
use Rattle.nc_theory.proofs.Letters.{KeysOver, StartOver, StepOver, TraceOver, entry_over, keys_at, keys_found, keys_trace, labels_over, syzygy_over}
use Rattle.nc_theory.specs.Labels.{labels_of}
use Rattle.nc_theory.specs.Runs.{SequentialRun}
use Rattle.nc_theory.specs.States.{Start, State, Step, Trace}
use Rattle.std.proofs.Common.{List, Option, subst, sym, ℕ, ◌-◌}
use Rattle.std.proofs.lemmas.List.Elements.{All-from_recursion}
use Rattle.std.specs.List.{All, AllByRecursion}

-- what holds of each element gives what follows of each
map_all : {X : Type 0} (A B : X → Type 0) (xs : List X) → AllByRecursion A xs
    → ((x : X) → A x → B x) → All B xs
map_all A B xs a f = All-from_recursion B xs (among_all B xs (λ x k. f x (all_among A xs a x k)))

module _ (P : NamedProblem) where
  abbrev letters : List Letter
  letters = alphabet_letters P.alphabet

  abbrev BothOver : Term Sig → Type 0
  BothOver t = IsOver letters t.key.left × IsOver letters t.key.right

  -- each term of a sum in normal form has a monomial of what is added up
  pub sum_over : (α : Element) → KeysOver letters α → (m : List (Term Sig))
      → IsSum P.problem.setting α m → All (λ t. IsWordIn P.alphabet t.key.left) m
      × All (λ t. IsWordIn P.alphabet t.key.right) m
  sum_over α o m sum =
      let both : AllByRecursion BothOver m =
      among_all BothOver m (λ t k. keys_found letters P.problem.setting α o (monomial_of t.key)
      (listed_counts P.problem.setting α m sum t k)) in (
        map_all BothOver (λ (t : Term Sig). IsWordIn P.alphabet t.key.left) m both
            (λ t k. word_in P.alphabet t.key.left k.0),
        map_all BothOver (λ (t : Term Sig). IsWordIn P.alphabet t.key.right) m both
            (λ t k. word_in P.alphabet t.key.right k.1),
      )

module _ (P : NamedProblem) (is : IsProblem P) (prime : IsPrime P.problem.setting.prime) {n : ℕ}
    {run : State} {last : Option Monomial} (runs : SequentialRun P.problem n run last) where
  field : IsField P.problem.setting.prime
  field = field_from_prime P.problem.setting.prime prime

  inputs : (i : ℕ) → WordsAre P.problem.setting (IsOver (letters P)) (generator P.problem.setting i)
  inputs = generator_over (setting_of P) is.setting

  item_over : (listed : Listed) (t : Trace) → IsTraceIn run listed t → TraceOver (letters P) t
  item_over (EntryOf k) t (e, some, at, i) =
      subst (TraceOver (letters P)) i
      (entry_over P.problem field (letters P) inputs runs e (contains_at run.entries (k - 1) e at))
  item_over (SyzygyOf k) t (h, some, at, i) =
      subst (TraceOver (letters P)) i
      (syzygy_over P.problem field (letters P) inputs runs h
      (contains_at run.syzygies (k - 1) h at))
  item_over Claim t h = absurd h

  labels : AllByRecursion (KeysOver (letters P)) (labels_of P.problem.setting.prime run.entries)
  labels = labels_over P.problem field (letters P) inputs runs

  label_over : (listed : Listed) (α : Element) → IsLabelIn P.problem.setting.prime run listed α
      → KeysOver (letters P) α
  label_over (EntryOf k) α (some, within, i) =
      subst (KeysOver (letters P)) (sym i)
      (keys_at (letters P) (labels_of P.problem.setting.prime run.entries) labels (k - 1))
  label_over (SyzygyOf k) α (t, is, i) =
      subst (KeysOver (letters P)) (sym i)
      (keys_trace (letters P) P.problem.setting.prime
      (labels_of P.problem.setting.prime run.entries) labels t (item_over (SyzygyOf k) t is))
  label_over Claim α h = absurd h

  start_in : (start : Start) → StartOver (letters P) start → IsStartIn P.alphabet start
  start_in (Start.a_generator i) o = tt
  start_in (Start.a_multiple u j v) o = (word_in P.alphabet u o.0, word_in P.alphabet v o.1)

  pub trace_over : (listed : Listed) (t : Trace) → IsTraceIn run listed t → IsTraceOver P.alphabet t
  trace_over listed t is =
      let o : TraceOver (letters P) t = item_over listed t is in
      record {
        start = start_in t.start o.start;
        left = map_all (StepOver (letters P)) (λ (step : Step). IsWordIn P.alphabet step.left)
            t.steps o.steps (λ step k. word_in P.alphabet step.left k.0);
        right = map_all (StepOver (letters P)) (λ (step : Step). IsWordIn P.alphabet step.right)
            t.steps o.steps (λ step k. word_in P.alphabet step.right k.1);
      }

  pub terms_over : (listed : Listed) (m : List (Term Sig))
      → IsLabelOf P.problem.setting run listed m → All (λ t. IsWordIn P.alphabet t.key.left) m
      × All (λ t. IsWordIn P.alphabet t.key.right) m
  terms_over listed m l =
      sum_over P l.label (label_over listed l.label l.is) m
      (label_sum P.problem.setting run listed m l)

-- the traces and the labels of all listed items
pub cofactors_over : CofactorsAreOver
cofactors_over P is prime n run last runs listed =
    (trace_over P is prime runs listed, terms_over P is prime runs listed)
