-- What was returned of a line is told of the text, by the lemmas of nc_tokens.
use Rattle.nc_tokens.proofs.Told.{at_gives, at_holds}

pub ruleset told = (at_gives, at_holds)
