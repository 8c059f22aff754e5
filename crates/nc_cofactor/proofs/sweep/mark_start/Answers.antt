use Rattle.nc_cofactor.specs.Terms.{StartNames}
use Rattle.nc_snapshot.specs.Traces.{start_of}
use Rattle.nc_snapshot.specs.declared.trace.Start.{Start}
use Rattle.std.proofs.Common.{refl, subst, sym}
use Rattle.nc_cofactor.proofs.sweep.mark_start.Goals as goal

pub set_mark-requires-clause-some : goal.set_mark-requires-clause-some
set_mark-requires-clause-some c =
    (c.requires c.in-Multiple.number
    (subst (λ (s : Start). StartNames (start_of s) c.in-Multiple.number) (sym c.in-Multiple.is)
    refl)).0

pub set_mark-requires-clause-within : goal.set_mark-requires-clause-within
set_mark-requires-clause-within c =
    (c.requires c.in-Multiple.number
    (subst (λ (s : Start). StartNames (start_of s) c.in-Multiple.number) (sym c.in-Multiple.is)
    refl)).1
