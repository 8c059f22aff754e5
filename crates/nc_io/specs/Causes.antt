-- Where a failure comes from: sources and sinks count their failures.
--
-- A contract cannot see the world outside. But it can say that a call failed for a reason: the
-- count of failures rose in it. A caller that knows the count before and after a run knows whether
-- anything failed.
use Rattle.std.specs.Prelude.{ℕ, ◌<◌, ◌≤◌, OnErr, Result}

-- there have been more failures since
abbrev pub Rose : ℕ → ℕ → Type 0
Rose before now = before < now

-- a call fails only where there have been more failures in it
pub record HasCause {T E : Type 0} (before now : ℕ) (result : Result T E) : Type 0 where
  pub later : before ≤ now
  pub failed : OnErr result (Rose before now)
