use Rattle.nc_text.proofs.RoundTripCertificates as lemmas
use Rattle.nc_text.proofs.reads_what_is_printed.Goals as goal

pub returns : goal.returns
returns c = lemmas.reads_what_is_printed
