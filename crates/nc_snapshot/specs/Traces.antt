-- What a reduction begins with: the variants of the code as those of the theory.
--
-- Traces are not kept in a snapshot, but code makes them while a signature is handled, and again
-- when one is asked for.
use Rattle.nc_snapshot.specs.declared.trace.Start.{Start}
use Rattle.nc_snapshot.specs.declared.trace.Start.TheVariants.{Generator, Multiple}
use Rattle.nc_theory.specs.States.{Start as Beginning}

-- the variants as the theory has them
abbrev pub start_of : Start → Beginning
start_of (Generator i) = Beginning.a_generator i
start_of (Multiple u j v) = Beginning.a_multiple u j v
