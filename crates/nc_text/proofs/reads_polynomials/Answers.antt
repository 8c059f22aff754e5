use Rattle.nc_text.proofs.RoundTripParts as lemmas
use Rattle.nc_text.proofs.reads_polynomials.Goals as goal

pub returns : goal.returns
returns c = lemmas.reads_polynomials
