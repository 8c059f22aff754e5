-- Desks whose states have no traces, as a program holds them.
--
-- A program keeps the run without traces, so its desk is a desk of the theory with the traces of
-- its state forgotten. The works in its window keep theirs, for a work that is committed is no
-- longer needed. Claims, works that come in and tickets that are given back leave the state as it
-- is. A commit adds an item with its trace, which is then forgotten. So the program's events are
-- those of the theory.
use Rattle.nc_algebra.specs.Problems.{NamedProblem}
use Rattle.nc_theory.specs.Desk.{Abandoned, Abandons, Advances, Claimed, Claims, Desk, Drives, IsCounted, IsFinished, Submits, Submitted, Ticket, Work, emptied}
use Rattle.nc_theory.specs.Runs.{SequentialRun}
use Rattle.nc_theory.specs.Untraced.{untraced}
use Rattle.nc_theory.specs.Windows.{WindowLaw}
use Rattle.std.specs.Prelude.{ℕ, ◌↔◌, ◌≡◌, ◌≤◌}

-- the desk whose state's traces are forgotten
abbrev pub untraced_desk : Desk → Desk
untraced_desk d = record d { state = untraced d.state }

-- a desk as events leave it: at a state of the run, within the steps, with a window of this
-- capacity that is as it should be, and with counts that add up
pub record IsSoundDesk (P : NamedProblem) (capacity : ℕ) (d : Desk) : Type 0 where
  pub runs : SequentialRun P.problem d.handled d.state d.last
  pub limited : d.handled ≤ P.problem.steps
  pub window : WindowLaw P capacity d
  pub counted : IsCounted d

-- such a desk without traces
pub record IsUntracedDesk (P : NamedProblem) (capacity : ℕ) (d : Desk) : Type 0 where
  pub desk : Desk
  pub sound : IsSoundDesk P capacity desk
  pub stands : d ≡ untraced_desk desk

-- each event on the desk without traces is one on the desk with them
pub record SameEvents (P : NamedProblem) (d : Desk) : Type 0 where
  pub finished : IsFinished P.problem (untraced_desk d) ↔ IsFinished P.problem d
  pub claims : (answer : Claimed) (d' : Desk) → Claims P.problem (untraced_desk d) answer d'
      → (after : Desk) × Claims P.problem d answer after × (d' ≡ untraced_desk after)
  pub submits : (t : Ticket) (w : Work) (answer : Submitted) (d' : Desk)
      → Submits P (untraced_desk d) t w answer d'
      → (after : Desk) × Submits P d t w answer after × (d' ≡ untraced_desk after)
  pub abandons : (t : Ticket) (answer : Abandoned) (d' : Desk)
      → Abandons (untraced_desk d) t answer d'
      → (after : Desk) × Abandons d t answer after × (d' ≡ untraced_desk after)
  pub advances : (d' : Desk) → Advances P.problem (untraced_desk d) d'
      → (after : Desk) × Advances P.problem d after × (untraced_desk d' ≡ untraced_desk after)
  pub empties : emptied (untraced_desk d) ≡ untraced_desk (emptied d)
  pub drives : (d' : Desk) → Drives P.problem (untraced_desk d) d'
      → (after : Desk) × Drives P.problem d after × (untraced_desk d' ≡ untraced_desk after)
