-- What holds of a desk's window after each list of events.
--
-- The window was opened with a capacity, the number of signatures that may be out at once. The
-- clause `full` says that a full window does not hold up the run: the next signature is in it, so
-- some worker has it or has brought its work. The law is `WindowsAreKept`.
use Rattle.nc_algebra.specs.Elements.{IsLess}
use Rattle.nc_algebra.specs.Monomials.{Monomial}
use Rattle.nc_algebra.specs.Problems.{NamedProblem}
use Rattle.nc_theory.specs.Desk.{Desk, IsHeld, IsLawful, Node, Work, count_from}
use Rattle.nc_theory.specs.Runs.{IsNext, IsWaiting}
use Rattle.std.specs.List.{AllPairs}
use Rattle.std.specs.Prelude.{Contains, IsPermutation, None, Option, Some, [], map, ℕ, ◌*◌, ◌++◌, ◌+◌, ◌<◌, ◌≡◌, ◌≤◌}

-- the generation that a node has from claim number c: odd until a work comes in, and even with it
abbrev pub generation_of : ℕ → Option Work → ℕ
generation_of c None = 2 * c + 1
generation_of c (Some w) = 2 * c + 2

-- the node was handed out by claim number c
abbrev pub IsFromClaim : ℕ → Node → Type 0
IsFromClaim c n = n.generation ≡ generation_of c n.work

-- both nodes were handed out by one claim
abbrev pub AreFromOneClaim : Node → Node → Type 0
AreFromOneClaim n m = (c : ℕ) × IsFromClaim c n × IsFromClaim c m

-- what holds of the window of a desk that was opened with this capacity
pub record WindowLaw (P : NamedProblem) (capacity : ℕ) (d : Desk) : Type 0 where
  -- signatures ascend strictly
  pub ascends : AllPairs (λ n m. IsLess P.problem.setting n.signature m.signature) d.window
  -- and each of them waits
  pub waits : (n : Node) → Contains d.window n → IsWaiting P.problem d.state d.last n.signature
  -- each index below the capacity is free or that of a node, and stands there once
  pub indices : IsPermutation (count_from 0 capacity) (d.free ++ map (λ n. n.index) d.window)
  -- each node was handed out by a claim that was made, which its generation tells
  pub claimed : (n : Node) → Contains d.window n → (c : ℕ) × (c < d.claimed) × IsFromClaim c n
  -- and no two by one claim
  pub apart : AllPairs (λ n m. ¬ AreFromOneClaim n m) d.window
  -- the work that a node holds is lawful
  pub lawful : (n : Node) (w : Work) → Contains d.window n → n.work ≡ Some w → IsLawful w
  -- and it is of this problem, over a state that the desk reached, and for the node's signature
  pub own : (n : Node) (w : Work) → Contains d.window n → n.work ≡ Some w → (w.problem ≡ P)
      × (w.number ≤ d.handled) × (w.signature ≡ n.signature)
  -- where no index is free, the next signature is held
  pub full : 1 ≤ capacity → d.free ≡ [] → (τ : Monomial) → IsNext P.problem d.state d.last τ
      → IsHeld d τ
