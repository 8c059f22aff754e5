-- What the code's steps do to the sum of a trace, and to a sum of multiples.
use Rattle.nc_algebra.proofs.Lists.{same-refl}
use Rattle.nc_algebra.specs.Elements.{Element, Setting, element_times}
use Rattle.nc_algebra.specs.Monomials.{Sig, compare_sigs, same_monomial}
use Rattle.nc_algebra.specs.Sums.{SameSum, Term, scale}
use Rattle.nc_algebra.specs.Words.{Word}
use Rattle.nc_cofactor.proofs.Sums.{sum_adds, sum_begins, sum_ends}
use Rattle.nc_cofactor.specs.Sums.{IsAddable, IsPlaced, IsSum, elements_of}
use Rattle.nc_module.specs.Modules.{element_of, module_multiples, same_sig}
use Rattle.nc_poly.specs.Ordered.{AreResiduesBy, Descends}
use Rattle.nc_theory.specs.Labels.{label_at}
use Rattle.nc_theory.specs.States.{Step}
use Rattle.std.proofs.Common.{List, [], ap, arith, get_or, length, subst, sym, take, ℕ, ◌+◌, ◌++◌, ◌-◌, ◌<◌, ◌∙◌, ◌∷◌, ◌≡◌, ◌≤◌}
use Rattle.std.proofs.Math.ListN.{get_or-map}
use Rattle.std.proofs.lemmas.List.{take_all, take_more}

module _ (s : Setting) where
  module _ (labels : List (List (Term Sig))) (u : Word) (j : ℕ) (v : Word)
      (placed : IsPlaced s labels u j v) (m : List (Term Sig)) (is : m ≡ get_or labels (j - 1) [])
    where
      pub addable : IsAddable s u m v
      addable = subst (λ (l : List (Term Sig)). IsAddable s u l v) (sym is) placed.addable

      same_place : SameSum same_monomial s.prime (element_of m) (label_at (elements_of labels) j)
      same_place =
          subst (λ (α : Element). SameSum same_monomial s.prime (element_of m) α)
          (ap element_of is ∙ sym (get_or-map element_of labels (j - 1) []))
          (same-refl same_monomial s.prime (element_of m))

      -- the multiple of a label
      pub begun : (old new : List (Term Sig)) → 1 < s.prime → old ≡ []
          → SameSum same_sig s.prime new (module_multiples s.prime 1 u m v ++ old)
          → Descends compare_sigs new → AreResiduesBy s.prime new
          → IsSum s (element_times u (label_at (elements_of labels) j) v) new
      begun old new one none e d residues =
          sum_begins s (label_at (elements_of labels) j) u m v new (omega arith) addable same_place
          (subst (λ (l : List (Term Sig)). SameSum same_sig s.prime new
          (module_multiples s.prime 1 u m v ++ l)) none e) d residues

      -- and a multiple of one
      pub more : (c : ℕ) (old new : List (Term Sig)) (α : Element) → c < s.prime
          → SameSum same_sig s.prime new (module_multiples s.prime c u m v ++ old)
          → Descends compare_sigs new → AreResiduesBy s.prime new → IsSum s α old
          → IsSum s (scale c (element_times u (label_at (elements_of labels) j) v) ++ α) new
      more c old new α small e d residues h =
          sum_adds s α (label_at (elements_of labels) j) c u m v old new (omega (arith, small))
          addable same_place e d residues h

  -- the code's step, by what the step names
  pub added : (labels : List (List (Term Sig))) (step : Step) (u : Word) (j : ℕ) (v : Word) (c : ℕ)
      (m old new : List (Term Sig)) → u ≡ step.left → j ≡ step.number → v ≡ step.right
      → m ≡ get_or labels (j - 1) [] → c < s.prime
      → IsPlaced s labels step.left step.number step.right
      → SameSum same_sig s.prime new (module_multiples s.prime c u m v ++ old)
      → Descends compare_sigs new → AreResiduesBy s.prime new → (α : Element) → IsSum s α old
      → IsSum s (scale c
      (element_times step.left (label_at (elements_of labels) step.number) step.right) ++ α) new
  added labels step u j v c m old new left number right is small placed e d residues α h =
      more labels step.left step.number step.right placed m
      (is ∙ ap (λ i. get_or labels (i - 1) []) number) c old new α small
      (subst (λ (w : Word). SameSum same_sig s.prime new
      (module_multiples s.prime c step.left m w ++ old)) right
      (subst (λ (w : Word). SameSum same_sig s.prime new
      (module_multiples s.prime c w m v ++ old)) left e)) d residues h

-- a sum over all steps
pub all_steps : (s : Setting) (sum_of : List Step → Element) (steps : List Step) (i : ℕ)
    (old new : List (Term Sig)) → length steps ≤ i → 1 < s.prime → SameSum same_sig s.prime new old
    → Descends compare_sigs new → AreResiduesBy s.prime new → IsSum s (sum_of (take i steps)) old
    → IsSum s (sum_of steps) new
all_steps s sum_of steps i old new long one e d residues h =
    sum_ends s (sum_of steps) old new (omega arith) e d residues
    (subst (λ (l : List Step). IsSum s (sum_of l) old) (take_all i steps long) h)

-- one step more
pub one_more : (s : Setting) (sum_of : List Step → Element) (steps : List Step) (i : ℕ) (t : Step)
    (next : Element) (new : List (Term Sig)) → i < length steps → t ≡ get_or steps i t
    → sum_of (take i steps ++ (t ∷ [])) ≡ next → IsSum s next new
    → IsSum s (sum_of (take (i + 1) steps)) new
one_more s sum_of steps i t next new within is more h =
    subst (λ (β : Element). IsSum s β new)
    (sym (ap sum_of (take_more steps i t within ∙ ap (λ (x : Step). take i steps ++ (x ∷ []))
    (sym is)) ∙ more)) h
