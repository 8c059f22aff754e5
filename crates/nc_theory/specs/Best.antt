-- What a search for the best multiple finds.
--
-- An entry has at most one multiple with a given signature, so a search asks each entry once and
-- keeps the better of two multiples. On equal words it keeps the first, since the earlier entry
-- wins. In `IsMultipleAt` entries count from 0, and in a `Best` from 1.
use Rattle.nc_algebra.specs.Elements.{Setting}
use Rattle.nc_algebra.specs.Monomials.{Monomial}
use Rattle.nc_algebra.specs.Words.{IsWordLess, Word, compare_words}
use Rattle.nc_theory.specs.Found.{Best}
use Rattle.nc_theory.specs.Divisors.{Divisor, IsBestMultiple, Multiple, number_of, signature_at}
use Rattle.nc_theory.specs.States.{Entry}
use Rattle.std.specs.Ordering.{is_lt}
use Rattle.std.specs.Prelude.{List, None, Option, Some, cond, ℕ, ◌≡◌, ◌≤◌, ◌⊎◌}

-- the multiple of one entry with signature τ
abbrev pub IsMultipleAt : (s : Setting) → List Entry → Monomial → ℕ → Option Best → Type 0
IsMultipleAt s entries τ n None =
    (w : Word) (d : Divisor s entries w) → signature_at s entries w d ≡ τ → ¬ (d.listed.0 ≡ n)
IsMultipleAt s entries τ n (Some b) =
    (d : Divisor s entries b.word) × (signature_at s entries b.word d ≡ τ) × (d.listed.0 ≡ n)
    × (d.left ≡ b.left) × (number_of s entries b.word d ≡ b.number) × (d.right ≡ b.right)

-- the best one of a set of divisors: the least word, and of those the earliest entry; None exactly
-- where the set has none
abbrev pub IsBestIn : (s : Setting) (entries : List Entry)
    → ((w : Word) → Divisor s entries w → Type 0) → Option Best → Type 0
IsBestIn s entries set None = (w : Word) (d : Divisor s entries w) → ¬ set w d
IsBestIn s entries set (Some b) =
    (d : Divisor s entries b.word) × set b.word d
    × ((v : Word) (e : Divisor s entries v) → set v e → IsWordLess b.word v
    ⊎ ((b.word ≡ v) × (number_of s entries b.word d ≤ number_of s entries v e)))
    × (d.left ≡ b.left) × (number_of s entries b.word d ≡ b.number) × (d.right ≡ b.right)

-- the best multiple with signature τ, and None exactly where there is no multiple
abbrev pub IsBest : (s : Setting) → List Entry → Monomial → Option Best → Type 0
IsBest s entries τ None = (w : Word) → ¬ Multiple s entries τ w
IsBest s entries τ (Some b) =
    (d : Divisor s entries b.word) × IsBestMultiple s entries τ b.word d × (d.left ≡ b.left)
    × (number_of s entries b.word d ≡ b.number) × (d.right ≡ b.right)

-- the second where its word is less, and else the first
abbrev pub best_of : Option Best → Option Best → Option Best
best_of None next = next
best_of (Some a) None = Some a
best_of (Some a) (Some b) = cond (is_lt (compare_words b.word a.word)) (Some b) (Some a)
