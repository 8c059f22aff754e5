use Rattle.nc_cofactor.proofs.Marks.{SomeHas}
use Rattle.nc_cofactor.specs.Needed.{MarksMore}
use Rattle.std.proofs.Common.{take}
use Rattle.nc_cofactor.proofs.sweep.mark_numbers.Given as goal

abbrev pub invariant-loop-number : goal.invariant-loop-number
invariant-loop-number l =
    MarksMore l.initial.marks l.marks (SomeHas (λ n. n) (take l.number-index l.numbers))
