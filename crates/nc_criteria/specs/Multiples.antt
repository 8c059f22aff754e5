-- What a search for the best multiple finds among some of the entries.
--
-- The search is cut by ranges of numbers, so that the answers for two ranges can be put together. A
-- range begins behind `after` and ends with `until`. An answer names the entry by its number, and
-- the words around it by places in τ, so that no word is copied.
--
-- `BestMultipleLaw` is a theorem of this crate, and the contract of `best_multiple_law`.
use Rattle.nc_algebra.specs.Elements.{Setting}
use Rattle.nc_algebra.specs.Monomials.{Monomial}
use Rattle.nc_algebra.specs.Words.{IsWordLess, Word}
use Rattle.nc_criteria.specs.declared.multiple.Multiple.{Multiple}
use Rattle.nc_theory.specs.Divisors.{Divisor, IsBestMultiple, Multiple as MultipleAt, number_of, signature_at}
use Rattle.nc_theory.specs.States.{Entry}
use Rattle.std.specs.Prelude.{List, None, Option, Some, drop, length, take, ℕ, ◌<◌, ◌≡◌, ◌≤◌, ◌↔◌, ◌⊎◌}

-- a multiple at τ, of an entry numbered above `after` and at most `until`
pub record IsMultipleWithin (s : Setting) (entries : List Entry) (τ : Monomial) (after until : ℕ)
    (w : Word) (d : Divisor s entries w) : Type 0 where
  pub signed : signature_at s entries w d ≡ τ
  pub later : after < number_of s entries w d
  pub within : number_of s entries w d ≤ until

-- of these one with the least word w, and of those the earliest entry's
pub record IsBestMultipleWithin (s : Setting) (entries : List Entry) (τ : Monomial)
    (after until : ℕ) (w : Word) (d : Divisor s entries w) : Type 0 where
  pub multiple : IsMultipleWithin s entries τ after until w d
  pub least : (v : Word) (e : Divisor s entries v) → IsMultipleWithin s entries τ after until v e
      → IsWordLess w v ⊎ ((w ≡ v) × (number_of s entries w d ≤ number_of s entries v e))

-- the best multiple, by its entry's number and by where what stands around it ends and begins in τ;
-- None exactly where there is no multiple
abbrev pub IsBestWithin : (s : Setting) → List Entry → Monomial → ℕ → ℕ → Option Multiple → Type 0
IsBestWithin s entries τ after until None =
    (w : Word) (d : Divisor s entries w) → ¬ IsMultipleWithin s entries τ after until w d
IsBestWithin s entries τ after until (Some m) =
    (w : Word) × (d : Divisor s entries w) × IsBestMultipleWithin s entries τ after until w d
    × (number_of s entries w d ≡ m.number) × (d.left ≡ take m.left τ.left)
    × (d.right ≡ drop m.right τ.right)
    × (m.left ≤ length τ.left) × (m.right ≤ length τ.right)

-- among all entries this is the best multiple of the definitions
abbrev pub BestMultipleLaw : Type 0
BestMultipleLaw = (s : Setting) (entries : List Entry) (τ : Monomial) →
    (IsBestWithin s entries τ 0 (length entries) None ↔ ((w : Word) → ¬ MultipleAt s entries τ w))
    × ((w : Word) (d : Divisor s entries w)
    → IsBestMultipleWithin s entries τ 0 (length entries) w d
    ↔ IsBestMultiple s entries τ w d)
