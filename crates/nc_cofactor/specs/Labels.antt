-- Labels of listed items as module elements in normal form.
--
-- The label is that which the traces of the run give (`Labels.antt` of nc_theory). That element may
-- have many terms that cancel; code keeps its normal form, each monomial with its degree. An item
-- has one label in normal form, by the law `OneLabel`. Lists of labels follow the numbers of their
-- items: the first one belongs to number 1.
use Rattle.nc_algebra.specs.Elements.{Element, HasDegree, Setting}
use Rattle.nc_algebra.specs.Monomials.{Sig, compare_sigs, same_monomial}
use Rattle.nc_algebra.specs.Problems.{Problem}
use Rattle.nc_algebra.specs.Sums.{SameSum, Term}
use Rattle.nc_cofactor.specs.Traces.{IsTraceIn, RunAt}
use Rattle.nc_module.specs.Modules.{element_of}
use Rattle.nc_poly.specs.Ordered.{AreResiduesBy, Descends}
use Rattle.nc_snapshot.specs.declared.outcome.Listed.{Listed}
use Rattle.nc_snapshot.specs.declared.outcome.Listed.TheVariants.{Claim, Entry as EntryOf, Syzygy as SyzygyOf}
use Rattle.nc_theory.specs.Labels.{label_at, labels_of, trace_label}
use Rattle.nc_theory.specs.States.{State, Trace}
use Rattle.std.specs.Prelude.{All, List, Some, length, slice_get, ℕ, ◌-◌, ◌≡◌, ◌≤◌}

-- the label of the item in the run
abbrev pub IsLabelIn : ℕ → State → Listed → Element → Type 0
IsLabelIn p run (EntryOf k) α =
    (1 ≤ k) × (k ≤ length run.entries) × (α ≡ label_at (labels_of p run.entries) k)
IsLabelIn p run (SyzygyOf k) α =
    (t : Trace) × IsTraceIn run (SyzygyOf k) t × (α ≡ trace_label p (labels_of p run.entries) t)
IsLabelIn p run Claim α = ⊥

-- the module element is the label, in normal form, each degree right
pub record IsLabelOf (s : Setting) (run : State) (listed : Listed) (m : List (Term Sig)) : Type 0
  where
    pub label : Element
    pub is : IsLabelIn s.prime run listed label
    pub same : SameSum same_monomial s.prime (element_of m) label
    pub descends : Descends compare_sigs m
    pub residues : AreResiduesBy s.prime m
    pub degrees : All (λ t. HasDegree s t.key) m

-- the same in the sequential run of n steps
pub record HasLabel (P : Problem) (n : ℕ) (listed : Listed) (m : List (Term Sig)) : Type 0 where
  pub at : RunAt P n
  pub is : IsLabelOf P.setting at.run listed m

-- the labels of the first entries of the run after n steps, in order
pub record AreLabels (P : Problem) (n : ℕ) (labels : List (List (Term Sig))) : Type 0 where
  pub at : RunAt P n
  pub few : length labels ≤ length at.run.entries
  pub are : (k : ℕ) (m : List (Term Sig)) → 1 ≤ k → slice_get labels (k - 1) ≡ Some m
      → IsLabelOf P.setting at.run (EntryOf k) m

-- the labels of the first syzygies of the run after n steps, in order
pub record AreSyzygyLabels (P : Problem) (n : ℕ) (labels : List (List (Term Sig))) : Type 0 where
  pub at : RunAt P n
  pub few : length labels ≤ length at.run.syzygies
  pub are : (k : ℕ) (m : List (Term Sig)) → 1 ≤ k → slice_get labels (k - 1) ≡ Some m
      → IsLabelOf P.setting at.run (SyzygyOf k) m
