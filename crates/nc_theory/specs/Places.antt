-- What a search for a divisor finds: a place of a word in a word.
--
-- A divisor is regular if its multiple has a signature below τ. Of several, the search chooses the
-- one of the earliest entry, and of that entry's the leftmost. Entries count from 1.
use Rattle.nc_algebra.specs.Elements.{IsLess, Setting}
use Rattle.nc_algebra.specs.Monomials.{Monomial}
use Rattle.nc_algebra.specs.Words.{Word}
use Rattle.nc_theory.specs.Found.{Chosen}
use Rattle.nc_theory.specs.Divisors.{Divisor, IsChosenDivisor, RegularDivisor, number_of, signature_at}
use Rattle.nc_theory.specs.States.{Entry}
use Rattle.std.specs.Prelude.{List, None, Option, Some, ◌≡◌}

-- the chosen divisor among those with a signature in the set, and None exactly where there is none
abbrev pub IsChoiceOf : Setting → List Entry → (Monomial → Type 0) → Word → Option Chosen → Type 0
IsChoiceOf s entries set w None = (d : Divisor s entries w) → ¬ set (signature_at s entries w d)
IsChoiceOf s entries set w (Some c) =
    (d : Divisor s entries w) × IsChosenDivisor s entries set w d × (d.left ≡ c.left)
    × (number_of s entries w d ≡ c.number) × (d.right ≡ c.right)

-- the same among those with a signature below τ
abbrev pub IsChoice : Setting → List Entry → Monomial → Word → Option Chosen → Type 0
IsChoice s entries τ w None = ¬ RegularDivisor s entries τ w
IsChoice s entries τ w (Some c) = IsChoiceOf s entries (λ σ. IsLess s σ τ) w (Some c)
