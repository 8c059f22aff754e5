-- Sums of module monomials that code builds term by term, from labels that stand in their places.
--
-- A trace names entries by their numbers, and the label of entry j stands in place j of a list,
-- counted from 1. A label that was not needed may be missing: anything may stand in its place. The
-- conditions say when the multiples that a trace names can be added: all that is named is there,
-- with residues and right degrees, and no degree passes a limit.
use Rattle.nc_algebra.specs.Elements.{Element, HasDegree, IsGenerator, Setting}
use Rattle.nc_algebra.specs.Limits.{max_degree}
use Rattle.nc_algebra.specs.Monomials.{Sig, compare_sigs, same_monomial}
use Rattle.nc_algebra.specs.Sums.{SameSum, Term}
use Rattle.nc_algebra.specs.Words.{Word, word_weight}
use Rattle.nc_module.specs.Modules.{element_of}
use Rattle.nc_poly.specs.Ordered.{AreResiduesBy, Descends}
use Rattle.nc_theory.specs.Labels.{trace_label}
use Rattle.nc_theory.specs.States.{Start, Step, Trace}
use Rattle.std.specs.Prelude.{All, List, [], get_or, length, map, ℕ, ◌+◌, ◌-◌, ◌<◌, ◌≤◌}

-- the terms are those of α in normal form, each degree right
pub record IsSum (s : Setting) (α : Element) (m : List (Term Sig)) : Type 0 where
  pub same : SameSum same_monomial s.prime (element_of m) α
  pub descends : Descends compare_sigs m
  pub residues : AreResiduesBy s.prime m
  pub degrees : All (λ t. HasDegree s t.key) m

-- a module element whose multiple by u and v can be added to a sum
pub record IsAddable (s : Setting) (u : Word) (m : List (Term Sig)) (v : Word) : Type 0 where
  pub residues : AreResiduesBy s.prime m
  pub degrees : All (λ t. HasDegree s t.key) m
  pub light : All (λ t. word_weight u + t.key.degree + word_weight v ≤ max_degree) m

-- the multiple by u and v of the label in place j, counted from 1
pub record IsPlaced (s : Setting) (labels : List (List (Term Sig))) (u : Word) (j : ℕ)
    (v : Word) : Type 0 where
  pub some : 1 ≤ j
  pub within : j ≤ length labels
  pub addable : IsAddable s u (get_or labels (j - 1) []) v

-- what is named has its label in its place, and a generator is one
abbrev pub IsStartPlaced : Setting → List (List (Term Sig)) → Start → Type 0
IsStartPlaced s labels (Start.a_generator i) = IsGenerator s i
IsStartPlaced s labels (Start.a_multiple u j v) = IsPlaced s labels u j v

-- a trace whose start and steps name labels that are in their places, with coefficients that are
-- residues
pub record IsSummable (s : Setting) (labels : List (List (Term Sig))) (trace : Trace) : Type 0 where
  pub start : IsStartPlaced s labels trace.start
  pub residues : All (λ t. t.coefficient < s.prime) trace.steps
  pub steps : All (λ t. IsPlaced s labels t.left t.number t.right) trace.steps

-- the multiples of the labels that the steps name can be added up
pub record AreSummable (s : Setting) (labels : List (List (Term Sig))) (steps : List Step) : Type 0
  where
    pub residues : All (λ t. t.coefficient < s.prime) steps
    pub placed : All (λ t. IsPlaced s labels t.left t.number t.right) steps

-- the elements in their places
abbrev pub elements_of : List (List (Term Sig)) → List Element
elements_of labels = map element_of labels

-- the terms are those of the label that the trace gives over these labels
abbrev pub IsTraceSum : Setting → List (List (Term Sig)) → Trace → List (Term Sig) → Type 0
IsTraceSum s labels trace m = IsSum s (trace_label s.prime (elements_of labels) trace) m
