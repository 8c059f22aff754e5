use Rattle.nc_cert.specs.Spent.{letter_count}
use Rattle.std.proofs.Common.{map, take, ◌≡◌}
use Rattle.nc_cert.proofs.charge.all_letters.Given as goal

abbrev pub invariant-loop-f : goal.invariant-loop-f
invariant-loop-f l = l.letters.items ≡ map letter_count (take l.f-index l.list)
