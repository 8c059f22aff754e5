use Rattle.nc_reduce.proofs.Turns.{IsReduced}
use Rattle.nc_theory.proofs.Turns.{size_of}
use Rattle.nc_reduce.proofs.reduction.reduce_all.Given as goal

abbrev pub invariant-turns : goal.invariant-turns
invariant-turns l =
    IsReduced l.snapshot l.bound l.initial.rest l.kept.items l.steps.items l.rest

abbrev pub decreases-turns : goal.decreases-turns
decreases-turns l = size_of l.rest
