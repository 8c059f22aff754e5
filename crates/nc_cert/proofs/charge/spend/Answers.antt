use Rattle.nc_algebra.specs.Certificates.{Line}
use Rattle.nc_cert.proofs.Spending.{beyond_here, spent_more}
use Rattle.nc_cert.specs.Spent.{IsBeyond, kept_charge}
use Rattle.std.proofs.Common.{ap, arith, get_or, length, subst, sym, ◌+◌, ◌<◌, ◌∙◌}
use Rattle.nc_cert.proofs.charge.spend.Goals as goal

pub returns-then-spent-limit : goal.returns-then-spent-limit
returns-then-spent-limit c =
    let charge = kept_charge c.args.setting.now.setting c.args.values.now in
    subst (λ n. IsBeyond c.args.limit c.args.spent charge c.args.line.now (c.loop-part.spent + n))
    (sym c.part_charge-spent.ensures.value)
    (beyond_here charge c.args.line.now c.loop-part.part-index c.part-item.result
    (omega (arith, ap length c.parts-part-items.ensures))
    (c.part-item.is ∙ ap (λ (l : Line). get_or l c.loop-part.part-index c.part-item.result)
    c.parts-part-items.ensures)
    c.args.limit c.args.spent c.loop-part.spent c.loop-part.invariant.spent
    c.loop-part.invariant.within (subst (λ n. c.args.limit < c.loop-part.spent + n)
    c.part_charge-spent.ensures.value c.if-spent-limit.true))

pub loop-part-preserved : goal.loop-part-preserved
loop-part-preserved c = record {
  spent =
      omega (
        arith,
        c.loop-part.invariant.spent,
        c.part_charge-spent.ensures.value,
        spent_more (kept_charge c.args.setting.now.setting c.args.values.now) c.args.line.now
            c.loop-part.part-index c.part-item.result
            (omega (arith, ap length c.parts-part-items.ensures))
            (c.part-item.is ∙ ap (λ (l : Line). get_or l c.loop-part.part-index c.part-item.result)
            c.parts-part-items.ensures),
      );
  within = c.if-spent-limit.false;
}
