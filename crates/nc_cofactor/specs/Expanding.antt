-- What the expansion of a listed item gives: its label, or what has too many terms.
--
-- To expand is to compute the label that a trace stands for from the labels of the entries that the
-- trace names. Either one item is expanded with all that it needs, or all items one after the
-- other. In each case `OutOfMemory` may come whatever the item is.
use Rattle.nc_algebra.specs.Monomials.{Sig}
use Rattle.nc_algebra.specs.Problems.{Problem}
use Rattle.nc_algebra.specs.Sums.{Term}
use Rattle.nc_cofactor.specs.Firsts.{AreWithin}
use Rattle.nc_cofactor.specs.Labels.{HasLabel, IsLabelOf}
use Rattle.nc_cofactor.specs.Terms.{CountedTerms, EntryLabelTerms, IsFirstPastAt, Names, SyzygyLabelTerms}
use Rattle.nc_cofactor.specs.Traces.{IsTraceIn, RunAt}
use Rattle.nc_cofactor.specs.declared.fault.CofactorFault.{CofactorFault}
use Rattle.nc_cofactor.specs.declared.fault.CofactorFault.TheVariants.{OutOfMemory, TooMany}
use Rattle.nc_snapshot.specs.declared.outcome.Listed.{Listed}
use Rattle.nc_snapshot.specs.declared.outcome.Listed.TheVariants.{Entry as EntryOf}
use Rattle.nc_theory.specs.States.{Trace}
use Rattle.std.specs.Prelude.{List, Some, length, slice_get, ℕ, ◌-◌, ◌<◌, ◌≡◌}

-- the trace is the item's, and the label of each entry that it names stands in the place with its
-- number
pub record AreNamedLabels (P : Problem) (n : ℕ) (listed : Listed) (t : Trace)
    (labels : List (List (Term Sig))) : Type 0 where
  pub at : RunAt P n
  pub is : IsTraceIn at.run listed t
  pub named : (j : ℕ) → Names t j → (m : List (Term Sig)) × (slice_get labels (j - 1) ≡ Some m)
      × IsLabelOf P.setting at.run (EntryOf j) m

-- the label of the item of the run after n steps, where no label that counts for it has more terms
-- than the limit
pub record IsExpanded (P : Problem) (n : ℕ) (listed : Listed) (limit : ℕ)
    (m : List (Term Sig)) : Type 0 where
  pub at : RunAt P n
  pub is : IsLabelOf P.setting at.run listed m
  pub within : AreWithin (CountedTerms listed P.setting.prime at.run) limit

-- why an expansion gave no label; want of memory says nothing
abbrev pub FailsToExpand : Problem → ℕ → Listed → ℕ → CofactorFault → Type 0
FailsToExpand P n listed limit OutOfMemory = Unit {0}
FailsToExpand P n listed limit (TooMany named terms) =
    IsFirstPastAt P n (CountedTerms listed) limit named terms

-- why not all entries were given labels: the least one whose label has more terms than the limit
abbrev pub FailsToLabel : Problem → ℕ → ℕ → CofactorFault → Type 0
FailsToLabel P n limit OutOfMemory = Unit {0}
FailsToLabel P n limit (TooMany named terms) = IsFirstPastAt P n EntryLabelTerms limit named terms

-- why not all syzygies were given labels: the least one whose label has more terms than the limit
abbrev pub FailsToLabelSyzygies : Problem → ℕ → ℕ → CofactorFault → Type 0
FailsToLabelSyzygies P n limit OutOfMemory = Unit {0}
FailsToLabelSyzygies P n limit (TooMany named terms) =
    IsFirstPastAt P n SyzygyLabelTerms limit named terms

-- the item's own label has more terms than the limit
pub record HasTooMany (P : Problem) (n : ℕ) (listed : Listed) (limit : ℕ) (named : Listed)
    (terms : ℕ) : Type 0 where
  pub label : List (Term Sig)
  pub has : HasLabel P n listed label
  pub names : named ≡ listed
  pub count : terms ≡ length label
  pub many : limit < terms

-- why the item was given no label
abbrev pub FailsToSum : Problem → ℕ → Listed → ℕ → CofactorFault → Type 0
FailsToSum P n listed limit OutOfMemory = Unit {0}
FailsToSum P n listed limit (TooMany named terms) = HasTooMany P n listed limit named terms
