-- Lists in chunks of at most 256 items, which copies of a list share.
--
-- Each snapshot of a run has lists of its own, though it differs from the one before by an item at
-- most. In chunks, a new item copies one chunk at most, and the list of chunks. Each chunk but the
-- last is full, so an index gives its chunk by division.
use Rattle.std.specs.Prelude.{◌≡◌, ℕ, ◌+◌, ◌<◌, ◌≤◌, List, [], ◌∷◌, get_or, length}

-- each chunk but the last has 256 items, and the last has no more; f gives the items of a chunk
abbrev pub IsChunked : {X T : Type 0} → (X → List T) → List X → Type 0
IsChunked f [] = Unit {0}
IsChunked f (x ∷ []) = length (f x) ≤ 256
IsChunked f (x ∷ y ∷ ys) = (length (f x) ≡ 256) × IsChunked f (y ∷ ys)

-- there is a last chunk, and it has fewer than 256 items
pub record HasRoom {X T : Type 0} (f : X → List T) (xs : List X) : Type 0 where
  pub some : 0 < length xs
  pub room : (i : ℕ) (e : X) → i + 1 ≡ length xs → length (f (get_or xs i e)) < 256
