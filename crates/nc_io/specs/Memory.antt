-- When the source and the sink in memory fail, and how many bytes pass in a call.
--
-- They are for tests of failures: they fail at the calls that are listed in them, which count from
-- 1, and hand on only so many bytes at a time. The count of calls and the count of failures stop at
-- the last value of 64 bits. Once the count of failures has stopped it can rise no more; so from
-- then on nothing fails, and the sink does not tell its bytes.
use Rattle.std.specs.Prelude.{◌≡◌, ℕ, ◌+◌, ◌-◌, ◌^◌, ◌<◌, min, List, Contains, Some, None, if◌then◌else◌, ◌==◌, ◌⊎◌}
use Rattle.std.specs.declared.option.Option.{Option}

-- calls are counted from 1, and the count stops at the last value of a u64
abbrev pub call_number : ℕ → ℕ
call_number calls = min (calls + 1) (2 ^ 64 - 1)

-- the call is listed, and the count of failures can still rise
abbrev pub IsFailing : List ℕ → ℕ → ℕ → Type 0
IsFailing failing calls faults = (faults < 2 ^ 64 - 1) × Contains failing (call_number calls)

-- a sink fails also where no room is left
abbrev pub IsFailingPut : List ℕ → ℕ → ℕ → ℕ → Type 0
IsFailingPut failing calls faults spare =
    (faults < 2 ^ 64 - 1) × ((spare ≡ 0) ⊎ Contains failing (call_number calls))

-- the least of the step, the room in the buffer and what is left
abbrev pub given_count : ℕ → ℕ → ℕ → ℕ
given_count step room left = min step (min room left)

-- the least of the step, the room that is left and the piece's length
abbrev pub kept_count : ℕ → ℕ → ℕ → ℕ
kept_count step spare offered = min step (min spare offered)

-- where no room is left and the sink can't fail any more, the whole piece
abbrev pub put_count : ℕ → ℕ → ℕ → ℕ
put_count step spare offered = if spare == 0 then offered else kept_count step spare offered

-- the bytes, while the count of failures can still rise
abbrev pub told : List ℕ → ℕ → Option (List ℕ)
told bytes faults = if faults == 2 ^ 64 - 1 then None else Some bytes
