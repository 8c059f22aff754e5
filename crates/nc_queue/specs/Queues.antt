-- Sets of signatures that wait, as ascending lists.
--
-- A run handles the least signature that waits, and a new entry may bring more of them. A signature
-- of several ambiguities stands once. The relations say of an operation which signatures its result
-- has; with `IsAscending` they leave one list. Each signature carries its degree, so the order
-- needs no setting.
use Rattle.nc_algebra.specs.Elements.{generator_weight}
use Rattle.nc_algebra.specs.Monomials.{Sig, compare_sigs, sig_of, unit_monomial}
use Rattle.nc_algebra.specs.Problems.{IsWithin, Problem}
use Rattle.std.specs.List.Sorted.{IsStrictlySortedBy}
use Rattle.std.specs.Prelude.{Contains, List, None, Option, Some, ℕ, ◌↔◌, ◌≡◌, ◌≤◌, ◌⊎◌}
use Rattle.std.specs.declared.cmp.Ordering.TheVariants.{Less}

-- each is less than those behind it
abbrev pub IsAscending : List Sig → Type 0
IsAscending = IsStrictlySortedBy compare_sigs

-- σ is 1 [i] 1 with its degree, and lies within the problem's bound
abbrev pub IsUnitAt : Problem → ℕ → Sig → Type 0
IsUnitAt P i σ =
    IsWithin P (unit_monomial i) × (σ ≡ sig_of (generator_weight P.setting) (unit_monomial i))

-- 1 [i] 1 with its degree, within the problem's bound
abbrev pub IsUnitWithin : Problem → Sig → Type 0
IsUnitWithin P σ = (i : ℕ) × IsUnitAt P i σ

-- the same of the first n generators
abbrev pub IsUnitTo : Problem → ℕ → Sig → Type 0
IsUnitTo P n σ = (i : ℕ) × (i ≤ n) × IsUnitAt P i σ

-- those of both lists and no others
abbrev pub IsUnion : List Sig → List Sig → List Sig → Type 0
IsUnion old more new = (σ : Sig) → Contains new σ ↔ (Contains old σ ⊎ Contains more σ)

-- those of the list and σ
abbrev pub IsWith : List Sig → Sig → List Sig → Type 0
IsWith old σ new = (τ : Sig) → Contains new τ ↔ (Contains old τ ⊎ (τ ≡ σ))

-- those of the list, and 1 [i] 1 where it lies within the problem's bound
abbrev pub IsWithUnit : Problem → ℕ → List Sig → List Sig → Type 0
IsWithUnit P i old new = (σ : Sig) → Contains new σ ↔ (Contains old σ ⊎ IsUnitAt P i σ)

-- those of the first list that are not in the second
abbrev pub IsDifference : List Sig → List Sig → List Sig → Type 0
IsDifference old less new = (σ : Sig) → Contains new σ ↔ (Contains old σ × ¬ Contains less σ)

-- the least one that is greater than σ, and None exactly where none is
abbrev pub IsLeastAfter : List Sig → Sig → Option Sig → Type 0
IsLeastAfter ss σ None = (τ : Sig) → Contains ss τ → ¬ (compare_sigs σ τ ≡ Less)
IsLeastAfter ss σ (Some τ) =
    Contains ss τ × (compare_sigs σ τ ≡ Less)
    × ((ρ : Sig) → Contains ss ρ → compare_sigs σ ρ ≡ Less → (τ ≡ ρ) ⊎ (compare_sigs τ ρ ≡ Less))
