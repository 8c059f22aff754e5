use Rattle.nc_field.proofs.Inverses.{IsStep}
use Rattle.nc_field.proofs.prime.Prime.inverse.Given as goal

abbrev pub invariant-loop-divisor : goal.invariant-loop-divisor
invariant-loop-divisor l = IsStep l.self l.a l.dividend l.dividend_factor l.divisor l.divisor_factor

abbrev pub decreases-loop-divisor : goal.decreases-loop-divisor
decreases-loop-divisor l = l.divisor
