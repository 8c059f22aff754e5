-- What a reduction begins with: a generator, or a multiple of an entry.
--
-- A start names what is reduced by numbers and words, and so can name what is not there.
-- `IsStartAt` and `IsReadable` exclude that. Entries are counted from 1, and the polynomial of a
-- number without an entry is zero.
use Rattle.nc_algebra.specs.Elements.{IsGenerator, Setting, generator}
use Rattle.nc_algebra.specs.Limits.{max_letters}
use Rattle.nc_algebra.specs.Monomials.{Monomial, times, unit_monomial}
use Rattle.nc_algebra.specs.Polynomials.{Polynomial, polynomial_times}
use Rattle.nc_theory.specs.States.{Entry, Start}
use Rattle.std.specs.Prelude.{All, List, Some, [], get_or, length, map, slice_get, suc, zero, ℕ, ◌+◌, ◌-◌, ◌≡◌, ◌≤◌}

-- the polynomial of the entry with this number, counted from 1, and zero where there is none
abbrev pub polynomial_of : List Entry → ℕ → Polynomial
polynomial_of entries zero = []
polynomial_of entries (suc i) = get_or (map (λ e. e.polynomial) entries) i []

-- the polynomial that a start names
abbrev pub start_polynomial : Setting → List Entry → Start → Polynomial
start_polynomial s entries (Start.a_generator i) = generator s i
start_polynomial s entries (Start.a_multiple u j v) = polynomial_times u (polynomial_of entries j) v

-- a start with signature τ: the generator of 1 [i] 1, or a multiple of a listed entry
abbrev pub IsStartAt : Setting → List Entry → Monomial → Start → Type 0
IsStartAt s entries τ (Start.a_generator i) = IsGenerator s i × (τ ≡ unit_monomial i)
IsStartAt s entries τ (Start.a_multiple u j v) =
    (e : Entry) × (1 ≤ j) × (slice_get entries (j - 1) ≡ Some e) × (times u e.signature v ≡ τ)

-- it names a generator, or a listed entry and a multiple whose words are within the length limit
abbrev pub IsReadable : Setting → List Entry → Start → Type 0
IsReadable s entries (Start.a_generator i) = IsGenerator s i
IsReadable s entries (Start.a_multiple u j v) =
    (1 ≤ j) × (j ≤ length entries)
    × All (λ t. length u + length t.key + length v ≤ max_letters) (polynomial_of entries j)
