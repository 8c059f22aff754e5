-- What a text begins with.
use Rattle.std.specs.Prelude.{length, List, take, ℕ, ◌≡◌}

-- the first bytes of a text are another text
unfoldable pub BeginsWith : List ℕ → List ℕ → Type 0
BeginsWith text front = take (length front) text ≡ front
