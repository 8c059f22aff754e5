-- An item of a run has one trace, one label, and one normal form of it.
-- `trace_once`, `label_once`; the last one is the law `one_label`.
use Rattle.nc_algebra.specs.Elements.{Element, Setting}
use Rattle.nc_algebra.specs.Monomials.{Sig}
use Rattle.nc_algebra.specs.Sums.{Term}
use Rattle.nc_cofactor.proofs.Labelled.{label_sum}
use Rattle.nc_cofactor.proofs.Terms.{has_terms, sum_once, terms_once}
use Rattle.nc_cofactor.specs.Labels.{IsLabelIn, IsLabelOf}
use Rattle.nc_cofactor.specs.Laws.{OneLabel}
use Rattle.nc_cofactor.specs.Sums.{IsSum}
use Rattle.nc_cofactor.specs.Terms.{EntryTerms, HasTerms, LabelTerms}
use Rattle.nc_cofactor.specs.Traces.{IsTraceIn}
use Rattle.nc_snapshot.specs.declared.outcome.Listed.{Listed}
use Rattle.nc_snapshot.specs.declared.outcome.Listed.TheVariants.{Claim, Entry as EntryOf, Syzygy as SyzygyOf}
use Rattle.nc_theory.specs.Labels.{label_at, labels_of, trace_label}
use Rattle.nc_theory.specs.States.{Entry, State, Syzygy, Trace}
use Rattle.std.proofs.Common.{List, Some, ap, arith, length, refl, subst, sym, ℕ, ◌∙◌, ◌≡◌, ◌≤◌}

pub trace_once : (run : State) (listed : Listed) (t t' : Trace) → IsTraceIn run listed t
    → IsTraceIn run listed t' → t ≡ t'
trace_once run (EntryOf k) t t' (e, some, at, is) (e', some', at', is') =
    let same : Some e ≡ Some e' = sym at ∙ at' in
    let one : e ≡ e' = cc in
    sym is ∙ (ap (λ (x : Entry). x.trace) one ∙ is')
trace_once run (SyzygyOf k) t t' (h, some, at, is) (h', some', at', is') =
    let same : Some h ≡ Some h' = sym at ∙ at' in
    let one : h ≡ h' = cc in
    sym is ∙ (ap (λ (x : Syzygy). x.trace) one ∙ is')
trace_once run Claim t t' a b = absurd a

pub label_once : (p : ℕ) (run : State) (listed : Listed) (α β : Element) → IsLabelIn p run listed α
    → IsLabelIn p run listed β → α ≡ β
label_once p run (EntryOf k) α β a b = a.2 ∙ sym b.2
label_once p run (SyzygyOf k) α β (x, is, e) (x', is', e') =
    e ∙ (ap (trace_label p (labels_of p run.entries)) (trace_once run (SyzygyOf k) x x' is is')
    ∙ sym e')
label_once p run Claim α β a b = absurd a

-- a label has as many terms as its normal form lists
pub label_count : (s : Setting) (run : State) (listed : Listed) (m : List (Term Sig))
    → IsLabelOf s run listed m → (α : Element) → IsLabelIn s.prime run listed α
    → HasTerms s.prime α (length m)
label_count s run listed m l α is =
    subst (λ (β : Element). HasTerms s.prime β (length m))
    (label_once s.prime run listed l.label α l.is is)
    (has_terms s l.label m (label_sum s run listed m l))

pub label_has : (s : Setting) (run : State) (listed : Listed) (m : List (Term Sig))
    → IsLabelOf s run listed m → (n : ℕ) → n ≡ length m → LabelTerms s.prime run listed n
label_has s run listed m l n count = (
  l.label,
  l.is,
  subst (λ i. HasTerms s.prime l.label i) (sym count) (label_count s run listed m l l.label l.is),
)

pub label_few : (s : Setting) (run : State) (listed : Listed) (m : List (Term Sig))
    → IsLabelOf s run listed m → (limit : ℕ) → length m ≤ limit → (n : ℕ)
    → LabelTerms s.prime run listed n → n ≤ limit
label_few s run listed m l limit few n (α, is, h) =
    omega (
      arith,
      terms_once s.prime α n (length m) h (label_count s run listed m l α is),
      few,
    )

pub entry_few : (s : Setting) (run : State) (k : ℕ) (m : List (Term Sig))
    → IsLabelOf s run (EntryOf k) m → (limit : ℕ) → length m ≤ limit → (n : ℕ)
    → EntryTerms s.prime run k n → n ≤ limit
entry_few s run k m l limit few n h =
    label_few s run (EntryOf k) m l limit few n
    (label_at (labels_of s.prime run.entries) k, (l.is.0, l.is.1, refl), h)

pub one_label : OneLabel
one_label s some run listed = (lists, label_count s run listed, terms_once s.prime)
  where
    lists : (m m' : List (Term Sig)) → IsLabelOf s run listed m → IsLabelOf s run listed m' → m ≡ m'
    lists m m' a b =
        sum_once s a.label m m' (label_sum s run listed m a)
        (subst (λ (α : Element). IsSum s α m')
        (label_once s.prime run listed b.label a.label b.is a.is) (label_sum s run listed m' b))
