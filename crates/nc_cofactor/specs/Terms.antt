-- How many terms a module element has, and which labels have too many.
--
-- Labels can be very long, so a caller gives a limit on the terms of each. It is a limit on labels
-- in normal form, never on a sum on the way. So whether it is kept depends on the run alone, and
-- not on the order in which code adds.
--
-- To expand an item's label, code needs the labels of the entries that its trace names, those that
-- their traces name, and so on. Those labels count as well. `Firsts.antt` says which item is named
-- where several have too many terms.
use Rattle.nc_algebra.specs.Elements.{Element}
use Rattle.nc_algebra.specs.Lists.{IsDistinct}
use Rattle.nc_algebra.specs.Monomials.{Monomial, same_monomial}
use Rattle.nc_algebra.specs.Primes.{IsZero}
use Rattle.nc_algebra.specs.Problems.{Problem}
use Rattle.nc_algebra.specs.Sums.{coefficient_by}
use Rattle.nc_cofactor.specs.Firsts.{IsFirstPast}
use Rattle.nc_cofactor.specs.Labels.{IsLabelIn}
use Rattle.nc_cofactor.specs.Traces.{IsTraceIn, RunAt}
use Rattle.nc_snapshot.specs.declared.outcome.Listed.{Listed}
use Rattle.nc_snapshot.specs.declared.outcome.Listed.TheVariants.{Claim, Entry as EntryOf, Syzygy as SyzygyOf}
use Rattle.nc_theory.specs.Labels.{label_at, labels_of}
use Rattle.nc_theory.specs.States.{Entry, Start, State, Step, Trace}
use Rattle.std.specs.Prelude.{Contains, List, Some, length, slice_get, ℕ, ◌-◌, ◌↔◌, ◌≡◌, ◌⊎◌}

-- so many monomials of α have a coefficient other than 0
pub record HasTerms (p : ℕ) (α : Element) (n : ℕ) : Type 0 where
  pub monomials : List Monomial
  pub distinct : IsDistinct monomials
  pub exact : (σ : Monomial) → Contains monomials σ ↔ ¬ IsZero p (coefficient_by same_monomial α σ)
  pub count : length monomials ≡ n

-- ---- the entries that an item needs

-- the start is a multiple of entry j
abbrev pub StartNames : Start → ℕ → Type 0
StartNames (Start.a_generator i) j = ⊥
StartNames (Start.a_multiple u k v) j = k ≡ j

-- the trace names entry j
abbrev pub Names : Trace → ℕ → Type 0
Names t j = StartNames t.start j ⊎ ((step : Step) × Contains t.steps step × (step.number ≡ j))

-- entry j is needed for what is given: it is given, or the trace of an entry that is needed names
-- it
pub data IsNeeded (entries : List Entry) (Given : ℕ → Type 0) : ℕ → Type 0 where
  given : {j : ℕ} → Given j → IsNeeded entries Given j
  through : {j k : ℕ} → IsNeeded entries Given k → (e : Entry) → slice_get entries (k - 1) ≡ Some e
      → Names e.trace j → IsNeeded entries Given j

-- the label of entry j counts for the item: it is the item, or the item's trace needs it
abbrev pub CountsFor : State → Listed → ℕ → Type 0
CountsFor run listed j =
    (listed ≡ EntryOf j) ⊎ ((t : Trace) × IsTraceIn run listed t × IsNeeded run.entries (Names t) j)

-- ---- limits

-- the label of entry j has n terms
abbrev pub EntryTerms : ℕ → State → ℕ → ℕ → Type 0
EntryTerms p run j n = HasTerms p (label_at (labels_of p run.entries) j) n

-- the label of the item has n terms
abbrev pub LabelTerms : ℕ → State → Listed → ℕ → Type 0
LabelTerms p run listed n = (α : Element) × IsLabelIn p run listed α × HasTerms p α n

-- the item is an entry, and its label has n terms
abbrev pub EntryLabelTerms : ℕ → State → Listed → ℕ → Type 0
EntryLabelTerms p run (EntryOf k) n = LabelTerms p run (EntryOf k) n
EntryLabelTerms p run (SyzygyOf k) n = ⊥
EntryLabelTerms p run Claim n = ⊥

-- the item is a syzygy, and its label has n terms
abbrev pub SyzygyLabelTerms : ℕ → State → Listed → ℕ → Type 0
SyzygyLabelTerms p run (EntryOf k) n = ⊥
SyzygyLabelTerms p run (SyzygyOf k) n = LabelTerms p run (SyzygyOf k) n
SyzygyLabelTerms p run Claim n = ⊥

-- a label that counts for the item, or its own, has n terms
abbrev pub CountedTerms : Listed → ℕ → State → Listed → ℕ → Type 0
CountedTerms listed p run (EntryOf j) n = CountsFor run listed j × EntryTerms p run j n
CountedTerms listed p run (SyzygyOf k) n = (listed ≡ SyzygyOf k) × LabelTerms p run listed n
CountedTerms listed p run Claim n = ⊥

-- in the run after so many steps the item named is the first that has more terms, and has so many
pub record IsFirstPastAt (P : Problem) (n : ℕ) (Has : ℕ → State → Listed → ℕ → Type 0) (limit : ℕ)
    (named : Listed) (terms : ℕ) : Type 0 where
  pub at : RunAt P n
  pub first : IsFirstPast (Has P.setting.prime at.run) limit named terms
