use Rattle.std.proofs.Common.{◌≡◌, ◌++◌, replicate}
use Rattle.nc_text.proofs.word.lengthen.Given as goal

abbrev pub invariant-loop : goal.invariant-loop
invariant-loop l = l.word.items ≡ l.initial.word.items ++ replicate l.counter l.letter
