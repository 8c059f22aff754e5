use Rattle.nc_algebra.specs.Certificates.{Certificate, IsCertificate}
use Rattle.nc_algebra.specs.Polynomials.{Polynomial}
use Rattle.nc_cert.proofs.Letters.{rest_named}
use Rattle.std.proofs.Common.{List, ap, length, subst, sym, ℕ, ◌<◌, ◌∙◌}
use Rattle.std.specs.List.{All}
use Rattle.nc_top.proofs.check.invalid_report.Goals as goal

pub write_poly-requires : goal.write_poly-requires
write_poly-requires c =
    let whole : Certificate = c.args.certificate.now in
    let names =
    c.names.ensures.names ∙ ap (λ (d : Certificate). d.setting.alphabet.names)
    c.certificate.view_is in
    subst (λ (ns : List (List ℕ)). All (λ t. All (λ x. x.index < length ns) t.key) c.args.rest.now)
    (sym names)
    (subst (λ (f : Polynomial). All
    (λ t. All (λ x. x.index < length whole.setting.alphabet.names) t.key) f)
    (sym c.requires) (rest_named whole
    (subst IsCertificate c.certificate.view_is c.certificate.invariant)))
