use Rattle.nc_algebra.specs.Polynomials.{Polynomial}
use Rattle.nc_tokens.proofs.Told.{at_gives}
use Rattle.nc_text.proofs.Generators.{are_lines}
use Rattle.nc_tokens.proofs.Repeated.{begin, ends, fails, fewer, goes_on}
use Rattle.nc_text.proofs.setting.generators_of.Goals as goal
use Rattle.std.proofs.Common.{Ok, ap, sym, ◌∙◌}
use Rattle.std.proofs.lemmas.Result.{err_from_is_err_and}

pub generators-init : goal.generators-init
generators-init c = rw c.new-generators.ensures.items (begin _ _ _)

pub returns-in_err-generator : goal.returns-in_err-generator
returns-in_err-generator c =
    let p = err_from_is_err_and c.from_residual.result c.from_residual.ensures.1 in
    let read = at_gives (λ (f : Polynomial). f) _ _ _ _ c.at.ensures c.generator_of.ensures in
    rw (p.1, p.2) (fails _ _ _ (are_lines c.args.prime c.args.alphabet.now) _ _ _ _ _ _
    c.in-Some.ensures (rw c.in_err-generator.was at read) c.generators.invariant)

pub generators-smaller : goal.generators-smaller
generators-smaller c = fewer _ _ _ c.in-Some.ensures

pub generators-preserved : goal.generators-preserved
generators-preserved c =
    let read = at_gives (λ (f : Polynomial). f) _ _ _ _ c.at.ensures c.generator_of.ensures in
    rw (c.in_ok-push.ensures.items, c.saturating_sub-room.ensures)
    (goes_on _ _ _ (are_lines c.args.prime c.args.alphabet.now) _ _ _ _ _ _ c.in-Some.ensures
    (rw c.in_ok-generator.was at read) c.generators.invariant)

pub returns : goal.returns
returns c =
    ends _ _ _ (are_lines c.args.prime c.args.alphabet.now) _ _ _ _ c.in_default.ensures.0
    c.generators.invariant
    ∙ ap (λ w. Ok (c.generators.generators.items, w)) (sym c.in_default.ensures.1)
