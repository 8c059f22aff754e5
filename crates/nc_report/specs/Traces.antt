-- The printed form of traces.
--
-- A generator's number stands in brackets and an entry's in braces, as generators and lines do in
-- certificates. The words around it stand before and behind it, the empty word as `1`. A step
-- stands behind a minus sign, with its coefficient even if that is 1. `StartIsNamed` keeps a start
-- from letters without names.
use Rattle.nc_algebra.specs.Words.{Word}
use Rattle.nc_print.specs.Printing.{word_text}
use Rattle.nc_theory.specs.States.{Start, Step, Trace}
use Rattle.std.specs.Prelude.{All, List, codes, decimal, flat_map, ℕ, ◌++◌, ◌<◌}

-- the words around an entry, whose number stands in braces
abbrev pub multiple_text : List (List ℕ) → Word → ℕ → Word → List ℕ
multiple_text names u j v =
    word_text names u ++ (codes " {" ++ (decimal j ++ (codes "} " ++ word_text names v)))

-- a generator, whose number stands in brackets, or a multiple of an entry
abbrev pub start_text : List (List ℕ) → Start → List ℕ
start_text names (Start.a_generator i) = codes "1 [" ++ (decimal i ++ codes "] 1")
start_text names (Start.a_multiple u j v) = multiple_text names u j v

-- the coefficient as it is, and the multiple
abbrev pub step_text : List (List ℕ) → Step → List ℕ
step_text names t =
    codes " - " ++ (decimal t.coefficient
    ++ (codes "*" ++ multiple_text names t.left t.number t.right))

-- the start, and the steps in their order
abbrev pub trace_text : List (List ℕ) → Trace → List ℕ
trace_text names t = start_text names t.start ++ flat_map (step_text names) t.steps

-- each letter of its words is one of the first n
abbrev pub StartIsNamed : ℕ → Start → Type 0
StartIsNamed n (Start.a_generator i) = Unit {0}
StartIsNamed n (Start.a_multiple u j v) = All (λ x. x.index < n) u × All (λ x. x.index < n) v
