use Rattle.nc_tokens.proofs.Values.{IsValue}
use Rattle.nc_tokens.proofs.token.literal_of.Given as goal

abbrev pub invariant-loop-digit : goal.invariant-loop-digit
invariant-loop-digit l = IsValue l.digits l.digit-index l.value
