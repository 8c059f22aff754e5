-- What a sink holds after a call.
--
-- A sink may tell contracts all bytes that were written to it so far, or not: then it tells `None`.
-- Sinks in memory tell theirs, those over the standard library's writers do not. Where nothing is
-- told, these facts say nothing. A sink that has stopped telling its bytes never tells them again.
use Rattle.std.specs.Prelude.{◌≡◌, ℕ, List, [], ◌++◌, take, MatchResult, Result, Some, None}
use Rattle.std.specs.declared.option.Option.{Option}

-- what is still told has grown by bs, and what wasn't told isn't told
abbrev pub Adds : Option (List ℕ) → Option (List ℕ) → List ℕ → Type 0
Adds old None bs = Unit {0}
Adds None (Some ys) bs = ⊥
Adds (Some xs) (Some ys) bs = ys ≡ xs ++ bs

-- `put(piece)` appended the bytes that it took at `Ok`, and nothing at `Err`
abbrev pub PutAdds : {E : Type 0} → Option (List ℕ) → Option (List ℕ) → Result ℕ E → List ℕ → Type 0
PutAdds old new r piece = MatchResult r (λ n. Adds old new (take n piece)) (λ _. Adds old new [])

-- a front of bs was appended
pub record AddsFront (old new : Option (List ℕ)) (bs : List ℕ) : Type 0 where
  pub count : ℕ
  pub added : Adds old new (take count bs)
