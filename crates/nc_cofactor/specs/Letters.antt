-- Traces and labels over an alphabet: a report can name all their letters.
--
-- `CofactorsAreOver` is a theorem of this crate.
use Rattle.nc_algebra.specs.Alphabets.{Alphabet, IsWordIn}
use Rattle.nc_algebra.specs.Monomials.{Monomial, Sig}
use Rattle.nc_algebra.specs.Primes.{IsPrime}
use Rattle.nc_algebra.specs.Problems.{IsProblem, NamedProblem}
use Rattle.nc_algebra.specs.Sums.{Term}
use Rattle.nc_cofactor.specs.Labels.{IsLabelOf}
use Rattle.nc_cofactor.specs.Traces.{IsTraceIn}
use Rattle.nc_snapshot.specs.declared.outcome.Listed.{Listed}
use Rattle.nc_theory.specs.Runs.{SequentialRun}
use Rattle.nc_theory.specs.States.{Start, State, Trace}
use Rattle.std.specs.Prelude.{All, List, Option, ℕ}

-- the words of a multiple are over the alphabet; a generator has none
abbrev pub IsStartIn : Alphabet → Start → Type 0
IsStartIn a (Start.a_generator i) = Unit {0}
IsStartIn a (Start.a_multiple u j v) = IsWordIn a u × IsWordIn a v

-- the words of the start, and those of all steps, are over the alphabet
pub record IsTraceOver (a : Alphabet) (t : Trace) : Type 0 where
  pub start : IsStartIn a t.start
  pub left : All (λ step. IsWordIn a step.left) t.steps
  pub right : All (λ step. IsWordIn a step.right) t.steps

-- for a problem that a program takes, the trace and the label of each listed item are over its
-- alphabet
abbrev pub CofactorsAreOver : Type 0
CofactorsAreOver =
    (P : NamedProblem) → IsProblem P → IsPrime P.problem.setting.prime
    → (n : ℕ) (run : State) (last : Option Monomial) → SequentialRun P.problem n run last
    → (listed : Listed) →
    ((t : Trace) → IsTraceIn run listed t → IsTraceOver P.alphabet t)
    × ((m : List (Term Sig)) → IsLabelOf P.problem.setting run listed m
    → All (λ t. IsWordIn P.alphabet t.key.left) m
    × All (λ t. IsWordIn P.alphabet t.key.right) m)
