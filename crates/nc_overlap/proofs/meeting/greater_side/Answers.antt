use Rattle.nc_algebra.specs.Words.{Word}
use Rattle.nc_overlap.proofs.Meetings.{apart, meets, words_differ, words_same}
use Rattle.nc_overlap.proofs.Sides.{multiple_degree}
use Rattle.nc_overlap.specs.Sides.{side_sig}
use Rattle.nc_theory.proofs.Meetings.{not_empty}
use Rattle.std.proofs.Common.{[], arith, length, option_map, subst, sym, ◌+◌, ◌<◌, ◌∙◌}
use Rattle.nc_algebra.specs.Monomials.{monomial_of}
use Rattle.nc_overlap.proofs.meeting.greater_side.Goals.{else-at-eq0-via-then-at-eq0+else-is_empty, else-at-eq0-via-else-at-eq0}
use Rattle.nc_overlap.proofs.meeting.greater_side.Goals as goal

pub returns-then-ne-clause-greater : goal.returns-then-ne-clause-greater
returns-then-ne-clause-greater c s e f h j a b =
    apart s e f c.args.first.now.sig.now c.args.second.now.sig.now c.letters.result.now
    c.letters-word.result.now c.args.at c.min-shared.result
    (a.lead ∙ sym c.letters.ensures.letters) a.signed
    (b.lead ∙ sym c.letters-word.ensures.letters) b.signed
    (subst (λ (w : Word). c.args.at < length w) (sym c.letters.ensures.letters) c.requires)
    c.split_at.result.1.now c.split_at-2.result.0.now c.split_at-3.result.0.now
    c.split_at.ensures.back c.min-shared.ensures c.split_at-2.ensures.front
    c.split_at-3.ensures.front
    (words_differ c.split_at-2.result.0.now c.split_at-3.result.0.now c.ne.result c.ne.ensures
    c.if-ne.true)

pub returns-clause-greater : goal.returns-clause-greater
returns-clause-greater c s e f h j a b =
    let v : Word = c.letters-word.result.now in
    let some : 0 < c.args.at + length v =
    elim c.else-at-eq0.branch [
      | else-at-eq0-via-then-at-eq0+else-is_empty w ↦ omega (
        arith,
        not_empty v w.is_empty.result w.is_empty.ensures w.if-is_empty.false,
      )
      | else-at-eq0-via-else-at-eq0 w ↦ omega (arith, w.if-at-eq0.false)
    ] in
    meets s e f c.args.first.now.sig.now c.args.second.now.sig.now c.letters.result.now v
    c.args.at c.min-shared.result (a.lead ∙ sym c.letters.ensures.letters) a.signed
    (b.lead ∙ sym c.letters-word.ensures.letters) b.signed
    (subst (λ (w : Word). c.args.at < length w) (sym c.letters.ensures.letters) c.requires)
    c.split_at.result.1.now c.split_at-2.result.0.now c.split_at-3.result.0.now
    c.split_at.ensures.back c.min-shared.ensures c.split_at-2.ensures.front
    c.split_at-3.ensures.front
    c.split_at.result.0.now c.split_at-2.result.1.now c.split_at-3.result.1.now
    c.split_at.ensures.front c.split_at-2.ensures.back c.split_at-3.ensures.back
    (words_same c.split_at-2.result.0.now c.split_at-3.result.0.now c.ne.result c.ne.ensures
    c.if-ne.false)
    some (option_map (λ x. monomial_of (side_sig x)) c.greater.result)
    (c.greater.ensures.greater s (multiple_degree s [] c.split_at-3.result.1.now
    c.args.first.now.sig.now h) (multiple_degree s c.split_at.result.0.now
    c.split_at-2.result.1.now c.args.second.now.sig.now j))
