-- Lists of terms by any order of their keys, the greatest key first.
--
-- This is the normal form of `Polynomials.antt` of nc_algebra for keys of any type. Module elements
-- use it, with monomials that carry their degree.
use Rattle.nc_algebra.specs.Sums.{Term}
use Rattle.std.specs.Prelude.{All, List, [], ℕ, ◌<◌, ◌∷◌, ◌≡◌}
use Rattle.std.specs.declared.cmp.Ordering.{Ordering}
use Rattle.std.specs.declared.cmp.Ordering.TheVariants.{Less}

-- pairs of a key and a coefficient as terms
abbrev pub listed : {K : Type 0} → List (K × ℕ) → List (Term K)
listed [] = []
listed (e ∷ es) = record { coefficient = e.1; key = e.0 } ∷ listed es

-- each listed key is less than k
abbrev pub AllBelow : {K : Type 0} → (K → K → Ordering) → K → List (Term K) → Type 0
AllBelow cmp k [] = Unit {0}
AllBelow cmp k (t ∷ f) = (cmp t.key k ≡ Less) × AllBelow cmp k f

-- the keys descend strictly, and no coefficient is 0
abbrev pub Descends : {K : Type 0} → (K → K → Ordering) → List (Term K) → Type 0
Descends cmp [] = Unit {0}
Descends cmp (t ∷ f) = (0 < t.coefficient) × AllBelow cmp t.key f × Descends cmp f

-- each coefficient is a residue modulo p
abbrev pub AreResiduesBy : {K : Type 0} → ℕ → List (Term K) → Type 0
AreResiduesBy p f = All (λ t. t.coefficient < p) f
