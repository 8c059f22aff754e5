-- What `check` answers to the bytes of an input.
--
-- For each input exactly one of the cases holds: the text has a fault or is too long, the
-- certificate asks for too much work, or it is valid or not. The limit on work comes before
-- validity. A certificate over the limit is neither called valid nor invalid. The values are those
-- of `Certificates.antt` of nc_algebra, so nothing here depends on how the check is carried out.
use Rattle.nc_algebra.specs.Certificates.{Certificate, rest_of}
use Rattle.nc_algebra.specs.Limits.{max_bytes, max_charge}
use Rattle.nc_cert.specs.Charges.{IsTooMuch, IsChargeWithin}
use Rattle.nc_cert.specs.Checking.{IsValidCertificate, certificate_charges}
use Rattle.nc_text.specs.Certificates.{reads_certificate}
use Rattle.nc_top.specs.Inputs.{IsBadText, IsTooLarge}
use Rattle.nc_top.specs.Reports.{invalid_report, too_much_report}
use Rattle.nc_top.specs.declared.status.Status.{Status}
use Rattle.nc_top.specs.declared.status.Status.TheVariants.{BadText, Done, Invalid, TooLarge, TooMuch}
use Rattle.std.specs.Prelude.{List, Ok, codes, length, ℕ, ◌≡◌, ◌≤◌}

-- the bytes are a text of this certificate, and are not too many
pub record IsText (bytes : List ℕ) (c : Certificate) : Type 0 where
  pub small : length bytes ≤ max_bytes
  pub read : reads_certificate bytes ≡ Ok c

-- checking the certificate asks for no more work than the limit
abbrev pub IsWithinWork : Certificate → Type 0
IsWithinWork c = IsChargeWithin max_charge (certificate_charges c)

-- the bytes are a text of a certificate that is valid
pub record IsDone (bytes report : List ℕ) : Type 0 where
  pub certificate : Certificate
  pub text : IsText bytes certificate
  pub within : IsWithinWork certificate
  pub valid : IsValidCertificate certificate
  pub written : report ≡ codes "valid\n"

-- the bytes are a text of a certificate that is not valid
pub record IsInvalid (bytes report : List ℕ) : Type 0 where
  pub certificate : Certificate
  pub text : IsText bytes certificate
  pub within : IsWithinWork certificate
  pub invalid : ¬ IsValidCertificate certificate
  pub written : report ≡ invalid_report certificate.setting.alphabet.names
      (rest_of certificate.setting.setting certificate.claim certificate.lines)

-- the bytes are a text of a certificate that asks for more work: the first part that passes the
-- limit stands in this line
pub record IsTooMuchWork (bytes : List ℕ) (line charge : ℕ) (report : List ℕ) : Type 0 where
  pub certificate : Certificate
  pub text : IsText bytes certificate
  pub much : IsTooMuch max_charge (certificate_charges certificate) line charge
  pub written : report ≡ too_much_report line charge

-- status and report for the bytes of an input
abbrev pub IsCheckAnswer : List ℕ → Status → List ℕ → Type 0
IsCheckAnswer bytes Done report = IsDone bytes report
IsCheckAnswer bytes Invalid report = IsInvalid bytes report
IsCheckAnswer bytes (BadText line kind) report = IsBadText reads_certificate bytes line kind report
IsCheckAnswer bytes TooLarge report = IsTooLarge bytes report
IsCheckAnswer bytes (TooMuch line charge) report = IsTooMuchWork bytes line charge report
IsCheckAnswer bytes _ report = ⊥
