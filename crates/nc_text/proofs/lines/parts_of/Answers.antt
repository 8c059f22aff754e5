use Rattle.nc_algebra.specs.Certificates.{line_reach, part_reach}
use Rattle.nc_text.proofs.PartLines.{begins, ends, line_fails, line_goes_on, part_fails, part_goes_on}
use Rattle.nc_text.proofs.Reaches.{reach_more}
use Rattle.nc_tokens.proofs.Repeated.{fewer}
use Rattle.nc_tokens.proofs.Told.{at_gives, at_holds}
use Rattle.nc_tokens.specs.Lines.{Written}
use Rattle.nc_tokens.specs.Unread.{left}
use Rattle.std.proofs.Common.{Ok, [], ap, arith, refl, sym, ◌++◌, ◌∷◌, ◌∙◌, ◌≡◌, ◌≤◌}
use Rattle.std.proofs.lemmas.List.Elements.{All-nil, All-push}
use Rattle.std.proofs.lemmas.List.{length-append}
use Rattle.std.proofs.lemmas.Result.{err_from_is_err_and}
use Rattle.std.proofs.Math.Nat.{max-le}
use Rattle.nc_text.proofs.lines.parts_of.Goals as goal

pub lines-init : goal.lines-init
unfolding line_reach
lines-init c =
    rw (c.empty-lines.ensures, c.new-reaches.ensures.items, c.empty-line.ensures) (record {
      reads = begins _ (left c.args.text.now);
      reach = refl;
      short = omega arith;
      reached = All-nil (λ m. m ≤ 100000);
      paired = refl;
      few = omega (arith, c.requires);
    })

pub part_of-requires-clause-reached : goal.part_of-requires-clause-reached
part_of-requires-clause-reached c = rw c.deref-in-Some.ensures.value c.lines.invariant.reached

pub part_of-requires-clause-few : goal.part_of-requires-clause-few
part_of-requires-clause-few c =
    rw c.deref-in-Some.ensures.value
    (omega (arith, c.lines.invariant.few, c.lines.invariant.paired))

pub returns-in_err-part : goal.returns-in_err-part
returns-in_err-part c =
    let p = err_from_is_err_and c.from_residual-in_err-part.result
    c.from_residual-in_err-part.ensures.1 in
    let read = at_gives (λ r. r.0) _ _ _ _ c.at.ensures c.part_of.ensures.reads in
    rw (p.1, p.2) (part_fails _ _ _ _ _ _ _ _ c.in-Some.ensures
    (rw c.deref-in-Some.ensures.value at (rw c.in_err-part.was at read))
    c.lines.invariant.reads)

pub lines-smaller-in-Some : goal.lines-smaller-in-Some
lines-smaller-in-Some c = fewer _ _ _ c.in-Some.ensures

pub lines-preserved-in-Some : goal.lines-preserved-in-Some
lines-preserved-in-Some c =
    let s = c.args.setting.now in
    let read = at_gives (λ r. r.0) _ _ _ _ c.at.ensures c.part_of.ensures.reads in
    let far =
    at_holds (λ r. r.1 ≡ part_reach s.setting c.deref-in-Some.result.now r.0) _ _ _
    c.in_ok-part.ensures c.part_of.ensures.reach in
    let short = at_holds (λ r. r.1 ≤ 100000) _ _ _ c.in_ok-part.ensures c.part_of.ensures.short in
    rw (c.in_ok-push.ensures.added, c.max-reach.ensures) (record {
      reads = part_goes_on _ _ _ _ _ _ _ _ c.in-Some.ensures
          (rw c.deref-in-Some.ensures.value at (rw c.in_ok-part.was at read))
          c.lines.invariant.reads;
      reach = reach_more _ _ _ _ _ _ (rw c.deref-in-Some.ensures.value at far)
          c.lines.invariant.reach;
      short = max-le short c.lines.invariant.short;
      reached = c.lines.invariant.reached;
      paired = c.lines.invariant.paired;
      few = omega (arith, c.lines.invariant.few, fewer _ _ _ c.in-Some.ensures);
    })

pub returns-in_err-at : goal.returns-in_err-at
returns-in_err-at c =
    let p = err_from_is_err_and c.from_residual-in_err-at.result
    c.from_residual-in_err-at.ensures.1 in
    let read = at_gives (λ u. u) _ _ _ _ c.at-in-Some-takes.ensures c.end.ensures in
    let none = rw c.in_default.ensures.1 at c.in-Some-takes.ensures in
    rw (p.1, p.2) (line_fails _ _ _ _ _ _ _ _ c.in_default.ensures.0 none
    (rw c.in_err-at.was at read) c.lines.invariant.reads)

pub push-requires-in-Some-takes : goal.push-requires-in-Some-takes
push-requires-in-Some-takes c = omega (arith, c.lines.invariant.few)

pub lines-smaller : goal.lines-smaller
lines-smaller c = fewer _ _ _ (rw c.in_default.ensures.1 at c.in-Some-takes.ensures)

pub lines-preserved : goal.lines-preserved
unfolding line_reach
lines-preserved c =
    let s = c.args.setting.now in
    let read = at_gives (λ u. u) _ _ _ _ c.at-in-Some-takes.ensures c.end.ensures in
    let none = rw c.in_default.ensures.1 at c.in-Some-takes.ensures in
    rw (
      c.in_ok-push-2.ensures.added,
      c.in_ok-push-3.ensures.items,
      c.empty-line-in-Some-takes.ensures,
    ) (record {
      reads = rw c.lines.invariant.reach
          (line_goes_on _ _ _ _ _ _ _ _ c.in_default.ensures.0 none (rw c.in_ok-at.was at read)
          c.lines.invariant.reads);
      reach = refl;
      short = omega arith;
      reached = All-push (λ m. m ≤ 100000) _ _ c.lines.invariant.reached c.lines.invariant.short;
      paired =
          omega (
            arith,
            c.lines.invariant.paired,
            length-append c.lines.reaches.items (c.lines.reach ∷ []),
            length-append c.lines.lines (c.lines.line ∷ []),
          );
      few = omega (
        arith,
        c.lines.invariant.few,
        fewer _ _ _ none,
        length-append c.lines.lines (c.lines.line ∷ []),
      );
    })

pub push-requires-in_default-takes : goal.push-requires-in_default-takes
push-requires-in_default-takes c = omega (arith, c.lines.invariant.few)

pub returns-in_default-takes : goal.returns-in_default-takes
returns-in_default-takes c =
    let none = rw c.in_default.ensures.1 at c.in_default-takes.ensures.0 in
    ends _ _ _ _ _ _ c.in_default.ensures.0 none c.lines.invariant.reads
    ∙ rw c.in_ok-push-4.ensures.added
    (ap (λ (w : Written). Ok (c.lines.lines ++ c.lines.line ∷ [], w))
    (sym (c.in_default-takes.ensures.1 ∙ c.in_default.ensures.1)))
