-- The outcomes of the code as those of the theory, and what was found with one more of them.
--
-- The trace of an outcome goes no further than the outcome. What was found keeps the signature of a
-- new item with its degree, and drops the trace.
use Rattle.nc_algebra.specs.Monomials.{Sig}
use Rattle.nc_snapshot.specs.Snapshots.{Found}
use Rattle.nc_snapshot.specs.declared.outcome.Outcome.{Outcome}
use Rattle.nc_snapshot.specs.declared.outcome.Outcome.TheVariants.{Covered, Entry, Settled, Syzygy}
use Rattle.nc_theory.specs.Runs.{Outcome as Result}
use Rattle.std.specs.Prelude.{[], ◌+◌, ◌++◌, ◌∷◌, ◌≢◌}

-- the variants as the theory has them
abbrev pub outcome_of : Outcome → Result
outcome_of Covered = Result.covered
outcome_of (Settled j) = Result.settled j
outcome_of (Entry f trace) = Result.an_entry f trace
outcome_of (Syzygy trace) = Result.a_syzygy trace

-- a new entry is not zero
abbrev pub HasTerms : Result → Type 0
HasTerms Result.covered = Unit {0}
HasTerms (Result.settled j) = Unit {0}
HasTerms (Result.an_entry f trace) = f ≢ []
HasTerms (Result.a_syzygy trace) = Unit {0}

-- what was found, with what becomes of σ
abbrev pub found_after : Found → Sig → Outcome → Found
found_after f σ Covered =
    record {
      entries = f.entries;
      syzygies = f.syzygies;
      covered = f.covered + 1;
      settled = f.settled;
    }
found_after f σ (Settled j) =
    record {
      entries = f.entries;
      syzygies = f.syzygies;
      covered = f.covered;
      settled = f.settled + 1;
    }
found_after f σ (Entry g trace) =
    record {
      entries = f.entries ++ record { sig = σ; polynomial = g } ∷ [];
      syzygies = f.syzygies;
      covered = f.covered;
      settled = f.settled;
    }
found_after f σ (Syzygy trace) =
    record {
      entries = f.entries;
      syzygies = f.syzygies ++ σ ∷ [];
      covered = f.covered;
      settled = f.settled;
    }
