-- Rows by their index and by their signature.
use Rattle.nc_algebra.specs.Monomials.{Sig, compare_sigs}
use Rattle.nc_window.specs.Windows.{Row}
use Rattle.std.specs.Ordering.{is_eq, is_lt}
use Rattle.std.specs.Prelude.{All, List, None, Option, Some, [], cond, nat_eq, ℕ, ◌∷◌, ◌≢◌}

module _ {T : Type 0} where
  -- the row with this index
  abbrev pub row_at : List (Row T) → ℕ → Option (Row T)
  row_at [] i = None
  row_at (r ∷ rs) i = cond (nat_eq r.index i) (Some r) (row_at rs i)

  -- the generation of the node with this index: 0 where no row has it
  abbrev pub generation_at : List (Row T) → ℕ → ℕ
  generation_at [] i = 0
  generation_at (r ∷ rs) i = cond (nat_eq r.index i) r.generation (generation_at rs i)

  -- the row with this signature
  abbrev pub row_of : List (Row T) → Sig → Option (Row T)
  row_of [] σ = None
  row_of (r ∷ rs) σ = cond (is_eq (compare_sigs r.signature σ)) (Some r) (row_of rs σ)

  -- no row has this generation
  abbrev pub LacksGeneration : List (Row T) → ℕ → Type 0
  LacksGeneration rows g = All (λ r. r.generation ≢ g) rows

  abbrev pub first_row : List (Row T) → Option (Row T)
  first_row [] = None
  first_row (r ∷ _) = Some r

  -- the row behind the one with this index
  abbrev pub row_after : List (Row T) → ℕ → Option (Row T)
  row_after [] i = None
  row_after (r ∷ rs) i = cond (nat_eq r.index i) (first_row rs) (row_after rs i)

  -- the rows without the one with this index
  abbrev pub without_row : ℕ → List (Row T) → List (Row T)
  without_row i [] = []
  without_row i (r ∷ rs) = cond (nat_eq r.index i) rs (r ∷ without_row i rs)

  -- this generation and item in a row
  abbrev pub row_with : ℕ → T → Row T → Row T
  row_with g x r =
      record { signature = r.signature; index = r.index; generation = g; item = x }

  -- this generation and item in the row with this index
  abbrev pub with_item : ℕ → ℕ → T → List (Row T) → List (Row T)
  with_item i g x [] = []
  with_item i g x (r ∷ rs) =
      cond (nat_eq r.index i) (row_with g x r ∷ rs) (r ∷ with_item i g x rs)

  -- the row in its place among ascending signatures
  abbrev pub insert_row : Row T → List (Row T) → List (Row T)
  insert_row r [] = r ∷ []
  insert_row r (s ∷ rows) =
      cond (is_lt (compare_sigs r.signature s.signature)) (r ∷ s ∷ rows) (s ∷ insert_row r rows)
