-- What holds of one of the first kinds, or of an entry at an index: what a loop has seen so far.
use Rattle.nc_algebra.specs.Monomials.{Monomial}
use Rattle.nc_theory.specs.States.{Entry}
use Rattle.std.proofs.Common.{Contains, List, ℕ, ◌<◌, ◌≡◌}

-- one of the first n kinds
abbrev pub Before : (ℕ → Monomial → Type 0) → ℕ → Monomial → Type 0
Before kind n σ = (k : ℕ) × (k < n) × kind k σ

-- with the property of the entry at this index
abbrev pub OfEntry : List Entry → (Entry → Monomial → Type 0) → ℕ → Monomial → Type 0
OfEntry entries property k σ = (e : Entry) × (c : Contains entries e) × (c.0 ≡ k) × property e σ
