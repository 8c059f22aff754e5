-- The outcome of a whole reduction, by what was kept.
--
-- This holds at a signature that is neither covered nor settled. The other two outcomes need no
-- reduction.
use Rattle.nc_algebra.specs.Polynomials.{Polynomial}
use Rattle.nc_theory.specs.Runs.{Outcome}
use Rattle.nc_theory.specs.States.{Start, Step}
use Rattle.std.specs.Prelude.{List, [], ◌∷◌}

-- a new syzygy where nothing was kept, and else a new entry
abbrev pub outcome_after : Start → Polynomial → List Step → Outcome
outcome_after start [] steps = Outcome.a_syzygy (record { start = start; steps = steps })
outcome_after start (t ∷ kept) steps =
    Outcome.an_entry (t ∷ kept) (record { start = start; steps = steps })
