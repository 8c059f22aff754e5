-- What the functions of this crate hand to one another: traces and lines.
--
-- The lines of a proof follow from the needed entries and the subtracted multiples alone
-- (`Lines.antt`). These facts say what of them a function may rely on.
use Rattle.nc_algebra.specs.Certificates.{Line}
use Rattle.nc_algebra.specs.Limits.{max_steps}
use Rattle.nc_algebra.specs.Problems.{Problem}
use Rattle.nc_cofactor.specs.Claims.{AreNeededTraces, numbers_of}
use Rattle.nc_member.specs.Lines.{proof_lines, trace_line}
use Rattle.nc_theory.specs.States.{Step, Trace}
use Rattle.std.specs.List.Sorted.{IsStrictlyIncreasing}
use Rattle.std.specs.Prelude.{All, List, length, map, ℕ, ◌<◌, ◌≡◌, ◌≤◌}

-- the coefficients of the trace's steps are residues
abbrev pub HasResidues : ℕ → Trace → Type 0
HasResidues p trace = All (λ step. step.coefficient < p) trace.steps

-- the numbers of the entries that are needed
abbrev pub entries_of : List (ℕ × Trace) → List ℕ
entries_of needed = map (λ x. x.0) needed

-- the line of each entry
abbrev pub trace_lines : ℕ → List ℕ → List (ℕ × Trace) → List Line
trace_lines p entries needed = map (λ x. trace_line p entries x.1) needed

-- the needed entries with their traces, as the lines are made from them
pub record AreUsable (P : Problem) (n : ℕ) (numbers : List ℕ) (needed : List (ℕ × Trace)) : Type 0
  where
    pub traces : AreNeededTraces P n numbers needed
    pub residues : All (λ x. HasResidues P.setting.prime x.1) needed
    pub ascending : IsStrictlyIncreasing (entries_of needed)
    pub few : length needed ≤ max_steps

-- the lines by which a claim is proved from which these multiples were subtracted, in the run after
-- n steps
pub record AreProofLines (P : Problem) (n : ℕ) (steps : List Step) (lines : List Line) : Type 0
  where
    pub needed : List (ℕ × Trace)
    pub traces : AreNeededTraces P n (numbers_of steps) needed
    pub are : lines ≡ proof_lines P.setting.prime needed steps
