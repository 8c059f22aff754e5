-- What the check of a certificate answers: valid, not valid with the rest, or too much work.
--
-- The check keeps the value of each line in normal form, and makes later lines of what it keeps. A
-- certificate that asks for more work than the limit has the verdict `TooMuch` and no other, even
-- if it is valid.
use Rattle.nc_algebra.specs.Certificates.{Certificate, IsValid, Line, rest_of, values_of}
use Rattle.nc_algebra.specs.Elements.{Setting}
use Rattle.nc_algebra.specs.Limits.{max_charge}
use Rattle.nc_algebra.specs.Polynomials.{Polynomial, normal_form}
use Rattle.nc_cert.specs.Charges.{Charge, IsTooMuch, IsChargeWithin, charges_of, total}
use Rattle.nc_cert.specs.Spent.{letter_count}
use Rattle.nc_cert.specs.declared.checking.Rest.{Rest}
use Rattle.nc_cert.specs.declared.checking.Rest.TheVariants as rests
use Rattle.nc_cert.specs.declared.checking.Verdict.{Verdict}
use Rattle.nc_cert.specs.declared.checking.Verdict.TheVariants as verdicts
use Rattle.nc_cert.specs.declared.taking.Taken.{Taken}
use Rattle.nc_cert.specs.declared.taking.Taken.TheVariants as takens
use Rattle.std.specs.Prelude.{List, map, ℕ, ◌≡◌, ◌≤◌}

-- the last line's value is the claim
abbrev pub IsValidCertificate : Certificate → Type 0
IsValidCertificate c = IsValid c.setting.setting c.claim c.lines

-- the charges of the parts of a certificate, line by line
abbrev pub certificate_charges : Certificate → List Charge
certificate_charges c = charges_of c.setting.setting c.lines

-- TooMuch where a part passes the limit; else Valid exactly where it is, and else the claim minus
-- the last line's value
abbrev pub IsVerdictWithin : ℕ → Certificate → Verdict → Type 0
IsVerdictWithin limit c verdicts.Valid =
    IsChargeWithin limit (certificate_charges c) × IsValidCertificate c
IsVerdictWithin limit c (verdicts.Invalid rest) =
    IsChargeWithin limit (certificate_charges c) × ¬ IsValidCertificate c
    × (rest ≡ rest_of c.setting.setting c.claim c.lines)
IsVerdictWithin limit c (verdicts.TooMuch line charge) =
    IsTooMuch limit (certificate_charges c) line charge

-- the limit is 100,000,000
abbrev pub IsVerdict : Certificate → Verdict → Type 0
IsVerdict = IsVerdictWithin max_charge

-- ---- the steps of the check

-- the values of all lines in normal form, the letters of each, and what is spent, or the first part
-- that passes the limit
abbrev pub IsTaken : ℕ → Setting → List Line → Taken → Type 0
IsTaken limit s lines (takens.All kept) =
    (kept.values.items ≡ map (normal_form s.prime) (values_of s lines))
    × (kept.letters.items ≡ map letter_count kept.values.items)
    × (kept.spent ≡ total (charges_of s lines)) × (kept.spent ≤ limit)
IsTaken limit s lines (takens.TooMuch line charge) =
    IsTooMuch limit (charges_of s lines) line charge

-- the claim minus the value of the last line, or the first part that passes the limit
abbrev pub IsRest : ℕ → Setting → Polynomial → List Line → Rest → Type 0
IsRest limit s claim lines (rests.Of rest) =
    IsChargeWithin limit (charges_of s lines) × (rest ≡ rest_of s claim lines)
IsRest limit s claim lines (rests.TooMuch line charge) =
    IsTooMuch limit (charges_of s lines) line charge
