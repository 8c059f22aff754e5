-- Trivial syzygies by the places of their two entries, as a search asks for them.
--
-- The definition of a trivial syzygy leaves open which entry's signature is in the greater side. A
-- search fixes that entry as its own, and tries every other one, itself included, on both sides of
-- it. Where only newer syzygies are asked for, one of the two entries has to be newer than the first
-- k ones; with k = 0 this is no condition. The places of entries count from 0 here.
use Rattle.nc_algebra.specs.Elements.{IsLess, Setting}
use Rattle.nc_algebra.specs.Monomials.{Divides, Monomial}
use Rattle.nc_algebra.specs.Words.{Word}
use Rattle.nc_theory.specs.Newer.{IsNewerTrivial}
use Rattle.nc_theory.specs.States.{Entry, Syzygy}
use Rattle.nc_theory.specs.Syzygies.{first_side, second_side}
use Rattle.std.specs.Prelude.{Contains, List, Some, cond, nat_lt, slice_get, ℕ, ◌≡◌, ◌≤◌, ◌⊎◌}

-- of a trivial syzygy of the two entries the side with own's signature is the greater one, and
-- divides τ
abbrev pub IsTrivialBy : Setting → Entry → Entry → Monomial → Type 0
IsTrivialBy s own other τ =
    ((m : Word) × IsLess s (second_side s own m other) (first_side s own m other)
    × Divides (first_side s own m other) τ)
    ⊎ ((m : Word) × IsLess s (first_side s other m own) (second_side s other m own)
    × Divides (second_side s other m own) τ)

-- so with the entries at these places, counted from 0
pub record IsTrivialPair (s : Setting) (entries : List Entry) (τ : Monomial) (n j : ℕ) : Type 0
  where
    pub own : Entry
    pub own_stands : slice_get entries n ≡ Some own
    pub other : Entry
    pub other_stands : slice_get entries j ≡ Some other
    pub by : IsTrivialBy s own other τ

-- so with the entry at this place and another one, behind the first k of them
abbrev pub IsTrivialFrom : Setting → List Entry → Monomial → ℕ → ℕ → Type 0
IsTrivialFrom s entries τ k n = (j : ℕ) × (k ≤ j) × IsTrivialPair s entries τ n j

-- which entries are tried beside the one at this place, where a newer one is wanted: all, if it is
-- newer itself, and else those that are
abbrev pub first_other : ℕ → ℕ → ℕ
first_other k n = cond (nat_lt n k) k 0

-- a trivial syzygy of two entries, one of them behind the first k, divides τ
abbrev pub IsTrivialBelow : Setting → List Entry → Monomial → ℕ → Type 0
IsTrivialBelow s entries τ k = (ρ : Monomial) × IsNewerTrivial s entries k ρ × Divides ρ τ

-- the signature of a listed syzygy behind the first k divides τ
abbrev pub IsListedBelow : List Syzygy → Monomial → ℕ → Type 0
IsListedBelow hs τ k = (h : Syzygy) × (c : Contains hs h) × (k ≤ c.0) × Divides h.signature τ
