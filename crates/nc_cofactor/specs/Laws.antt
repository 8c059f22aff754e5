-- The theorems on labels.
--
-- A label has one normal form, and one number of terms; each label has a normal form; and either
-- all labels of a run are within a limit, or one item is the first whose label is not. A further
-- theorem, `CofactorsAreOver`, stands in `Letters.antt`.
use Rattle.nc_algebra.specs.Elements.{Element, Setting}
use Rattle.nc_algebra.specs.Monomials.{Sig}
use Rattle.nc_algebra.specs.Primes.{IsPrime}
use Rattle.nc_algebra.specs.Sums.{Term}
use Rattle.nc_cofactor.specs.Firsts.{AreWithin, IsFirstPast}
use Rattle.nc_cofactor.specs.Labels.{IsLabelIn, IsLabelOf}
use Rattle.nc_cofactor.specs.Terms.{HasTerms, LabelTerms}
use Rattle.nc_snapshot.specs.declared.outcome.Listed.{Listed}
use Rattle.nc_theory.specs.States.{State}
use Rattle.std.specs.Prelude.{List, length, ℕ, ◌<◌, ◌≡◌, ◌⊎◌}

-- a label in normal form is one, and has one number of terms
abbrev pub OneLabel : Type 0
OneLabel = (s : Setting) → 1 < s.prime → (run : State) (listed : Listed) →
    ((m m' : List (Term Sig)) → IsLabelOf s run listed m → IsLabelOf s run listed m' → m ≡ m')
    × ((m : List (Term Sig)) → IsLabelOf s run listed m → (α : Element)
    → IsLabelIn s.prime run listed α → HasTerms s.prime α (length m))
    × ((α : Element) (n n' : ℕ) → HasTerms s.prime α n → HasTerms s.prime α n' → n ≡ n')

-- each label has a normal form
abbrev pub LabelsExist : Type 0
LabelsExist =
    (s : Setting) → IsPrime s.prime → (run : State) (listed : Listed) (α : Element)
    → IsLabelIn s.prime run listed α → (m : List (Term Sig)) × IsLabelOf s run listed m

-- all labels of a run are within a limit, or one is the first with more terms; never both, and
-- never two
abbrev pub OneFirst : Type 0
OneFirst = (s : Setting) → IsPrime s.prime → (run : State) (limit : ℕ) →
    (AreWithin (LabelTerms s.prime run) limit ⊎ ((named : Listed) × (n : ℕ)
    × IsFirstPast (LabelTerms s.prime run) limit named n))
    × ((named : Listed) (n : ℕ) → AreWithin (LabelTerms s.prime run) limit
    → IsFirstPast (LabelTerms s.prime run) limit named n → ⊥)
    × ((named named' : Listed) (n n' : ℕ) → IsFirstPast (LabelTerms s.prime run) limit named n
    → IsFirstPast (LabelTerms s.prime run) limit named' n' → (named ≡ named') × (n ≡ n'))
