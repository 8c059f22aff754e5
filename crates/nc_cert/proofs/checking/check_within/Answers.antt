use Rattle.nc_algebra.specs.Certificates.{Certificate, IsCertificate, Line, rest_of}
use Rattle.nc_cert.proofs.Rests.{nothing_from_valid, valid_from_nothing}
use Rattle.nc_cert.specs.Charges.{IsChargeWithin, charges_of}
use Rattle.nc_cert.specs.Checking.{IsRest, certificate_charges}
use Rattle.std.proofs.Common.{List, ap, subst, sym, ◌∙◌, ◌≡◌}
use Rattle.std.proofs.lemmas.Bool.{false≢true}
use Rattle.nc_cert.proofs.checking.check_within.Goals as goal

pub returns-then-is_zero : goal.returns-then-is_zero
returns-then-is_zero c =
    let whole : Certificate = c.args.certificate.now in
    let left =
    subst (IsRest c.args.limit c.certificate.inside.setting.setting c.certificate.inside.claim
    c.lines.result.now) c.in-Of.is c.in_ok-rest.ensures in
    let is : c.in-Of.rest ≡ rest_of whole.setting.setting whole.claim whole.lines =
    left.1 ∙ (ap (λ (l : List Line). rest_of c.certificate.inside.setting.setting
    c.certificate.inside.claim l) c.lines.ensures.lines
    ∙ ap (λ (d : Certificate). rest_of d.setting.setting d.claim d.lines)
    c.certificate.view_is) in (
      subst (λ (d : Certificate). IsChargeWithin c.args.limit (certificate_charges d))
          c.certificate.view_is (subst (λ (l : List Line). IsChargeWithin c.args.limit
          (charges_of c.certificate.inside.setting.setting l)) c.lines.ensures.lines left.0),
      valid_from_nothing whole c.in-Of.rest
          (subst IsCertificate c.certificate.view_is c.certificate.invariant) is
          (c.is_zero.ensures.0 c.if-is_zero.true),
    )

pub returns-else-is_zero : goal.returns-else-is_zero
returns-else-is_zero c =
    let whole : Certificate = c.args.certificate.now in
    let left =
    subst (IsRest c.args.limit c.certificate.inside.setting.setting c.certificate.inside.claim
    c.lines.result.now) c.in-Of.is c.in_ok-rest.ensures in
    let is : c.in-Of.rest ≡ rest_of whole.setting.setting whole.claim whole.lines =
    left.1 ∙ (ap (λ (l : List Line). rest_of c.certificate.inside.setting.setting
    c.certificate.inside.claim l) c.lines.ensures.lines
    ∙ ap (λ (d : Certificate). rest_of d.setting.setting d.claim d.lines)
    c.certificate.view_is) in (
      subst (λ (d : Certificate). IsChargeWithin c.args.limit (certificate_charges d))
          c.certificate.view_is (subst (λ (l : List Line). IsChargeWithin c.args.limit
          (charges_of c.certificate.inside.setting.setting l)) c.lines.ensures.lines left.0),
      (λ valid. false≢true (sym c.if-is_zero.false
          ∙ c.is_zero.ensures.1 (nothing_from_valid whole c.in-Of.rest
          (subst IsCertificate c.certificate.view_is c.certificate.invariant) is valid))),
      is,
    )
