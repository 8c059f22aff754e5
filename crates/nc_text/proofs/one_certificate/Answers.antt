use Rattle.nc_text.proofs.RoundTripCertificates as lemmas
use Rattle.nc_text.proofs.one_certificate.Goals as goal

pub returns : goal.returns
returns c = lemmas.one_certificate
