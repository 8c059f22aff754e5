-- The lines that prove a claim: one for each entry that is needed, and one for the claim.
--
-- A trace says how the polynomial of an entry arises from a generator or an earlier entry. So it is
-- a line of a certificate as it stands: the start, less the steps. The needed entries come in
-- ascending order, each with its line after the lines that it uses. The last line is that of the
-- claim: the multiples that its reduction subtracted. Lines and entries are both counted from 1,
-- and `line_of` leads from the ones to the others.
--
-- Such a proof needs no label, so it stays short where labels are long. Coefficients of steps are
-- negated modulo p, as p minus the coefficient.
use Rattle.nc_algebra.specs.Certificates.{Factor, Line, Part}
use Rattle.nc_theory.specs.States.{Start, Step, Trace}
use Rattle.std.specs.Prelude.{List, [], count_by, map, nat_le, ℕ, ◌%◌, ◌++◌, ◌-◌, ◌∷◌}

-- the line of entry j where these are needed, in ascending order: so many of them are not greater
-- than j
abbrev pub line_of : List ℕ → ℕ → ℕ
line_of needed j = count_by (λ k. nat_le k j) needed

-- what a trace begins with
abbrev pub start_part : List ℕ → Start → Part
start_part needed (Start.a_generator i) =
    record { coefficient = 1; left = []; of = Factor.a_generator i; right = [] }
start_part needed (Start.a_multiple u j v) =
    record { coefficient = 1; left = u; of = Factor.a_line (line_of needed j); right = v }

-- the multiple of a step, with a coefficient
abbrev pub step_part : List ℕ → ℕ → Step → Part
step_part needed c step =
    record {
      coefficient = c;
      left = step.left;
      of = Factor.a_line (line_of needed step.number);
      right = step.right;
    }

-- the start with coefficient 1, and then the steps with negated coefficients
abbrev pub trace_line : ℕ → List ℕ → Trace → Line
trace_line p needed trace =
    start_part needed trace.start ∷ map (λ step. step_part needed ((p - step.coefficient) % p) step)
    trace.steps

-- the multiples that were subtracted from the claim
abbrev pub line_of_claim : List ℕ → List Step → Line
line_of_claim needed steps = map (λ step. step_part needed step.coefficient step) steps

-- the lines of the needed entries in ascending order, and then that of the claim; none where
-- nothing was subtracted
abbrev pub proof_lines : ℕ → List (ℕ × Trace) → List Step → List Line
proof_lines p needed [] = []
proof_lines p needed (step ∷ steps) =
    map (λ x. trace_line p (map (λ y. y.0) needed) x.1) needed
    ++ (line_of_claim (map (λ y. y.0) needed) (step ∷ steps) ∷ [])
