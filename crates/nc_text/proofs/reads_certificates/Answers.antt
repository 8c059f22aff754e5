use Rattle.nc_text.proofs.ReadCertificates as lemmas
use Rattle.nc_text.proofs.reads_certificates.Goals as goal

pub returns : goal.returns
returns c = lemmas.reads_certificates
