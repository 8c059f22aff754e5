use Rattle.nc_text.proofs.RoundTripCertificates as lemmas
use Rattle.nc_text.proofs.reads_terms.Goals as goal

pub returns : goal.returns
returns c = lemmas.reads_terms
