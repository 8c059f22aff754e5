use Rattle.nc_algebra.specs.Certificates.{Part}
use Rattle.nc_tokens.proofs.Told.{at_gives}
use Rattle.nc_tokens.proofs.Repeated.{begin, ends, fails, fewer, goes_on}
use Rattle.nc_text.proofs.Terms.{all_terms, are_lines}
use Rattle.nc_text.proofs.certificate.terms_of.Goals as goal
use Rattle.std.proofs.Common.{Ok, ap, length, sym, ◌∙◌}
use Rattle.std.proofs.lemmas.Result.{err_from_is_err_and}

pub terms-init : goal.terms-init
terms-init c =
    rw c.empty-line.ensures (begin
    (all_terms c.args.setting.now.setting.prime c.args.setting.now.alphabet
    (length c.args.setting.now.setting.generators)) 0 _)

pub returns-in_err-part : goal.returns-in_err-part
returns-in_err-part c =
    let p = err_from_is_err_and c.from_residual.result c.from_residual.ensures.1 in
    let read = at_gives (λ (q : Part). q) _ _ _ _ c.at.ensures c.term_of.ensures in
    let s = c.args.setting.now in
    rw (p.1, p.2) (fails _ _ _ (are_lines s.setting.prime s.alphabet (length s.setting.generators))
    _ _ _ _ _ _ c.in-Some.ensures (rw c.in_err-part.was at read) c.terms.invariant)

pub terms-smaller : goal.terms-smaller
terms-smaller c = fewer _ _ _ c.in-Some.ensures

pub terms-preserved : goal.terms-preserved
terms-preserved c =
    let read = at_gives (λ (q : Part). q) _ _ _ _ c.at.ensures c.term_of.ensures in
    let s = c.args.setting.now in
    rw c.in_ok-push.ensures.added (goes_on _ _ _
    (are_lines s.setting.prime s.alphabet (length s.setting.generators)) _ _ _ _ _ _
    c.in-Some.ensures (rw c.in_ok-part.was at read) c.terms.invariant)

pub returns : goal.returns
returns c =
    let s = c.args.setting.now in
    ends _ _ _ (are_lines s.setting.prime s.alphabet (length s.setting.generators)) _ _ _ _
    c.in_default.ensures.0 c.terms.invariant
    ∙ ap (λ w. Ok (c.terms.line, w)) (sym c.in_default.ensures.1)
