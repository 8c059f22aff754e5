use Rattle.nc_algebra.specs.Certificates.{Line}
use Rattle.nc_algebra.specs.Polynomials.{AreResidues, Polynomial, normal_form}
use Rattle.nc_cert.proofs.Differences.{IsLeft, left_begins, left_ends, left_step}
use Rattle.nc_cert.proofs.Readiness.{above_one}
use Rattle.std.proofs.Common.{ap, arith, get_or, length, subst, sym, ◌∙◌}
use Rattle.nc_cert.proofs.value.minus_line.Goals as goal

pub loop-part-init : goal.loop-part-init
loop-part-init c = record {
  residues =
      subst (AreResidues c.args.setting.now.setting.prime) (sym c.of-sum.ensures)
      c.requires.residues;
  left = subst (λ (g : Polynomial). IsLeft c.args.setting.now.setting c.args.values.now c.args.f
      c.args.c c.args.line.now 0 g) (sym c.of-sum.ensures)
      (left_begins c.args.setting.now.setting c.args.values.now c.args.f c.args.c c.args.line.now);
}

pub loop-part-preserved : goal.loop-part-preserved
loop-part-preserved c = record {
  residues = c.in_ok-sub_part.ensures.residues;
  left = left_step c.args.setting.now.setting c.args.values.now c.args.f c.args.c c.args.line.now
      c.loop-part.part-index c.part-item.result c.loop-part.sum c.sub_part.new.sum
      (omega (arith, ap length c.parts-part-items.ensures))
      (c.part-item.is ∙ ap (λ (l : Line). get_or l c.loop-part.part-index c.part-item.result)
      c.parts-part-items.ensures) c.in_ok-sub_part.ensures.difference c.loop-part.invariant.left;
}

pub finish-requires : goal.finish-requires
finish-requires c =
    subst (λ p. AreResidues p c.loop-part.sum) (sym c.prime.ensures.prime)
    c.loop-part.invariant.residues

pub returns : goal.returns
returns c =
    c.finish.ensures
    ∙ (ap (λ n. normal_form n c.loop-part.sum) c.prime.ensures.prime
    ∙ left_ends c.args.setting.now.setting c.args.values.now c.args.f c.args.c c.args.line.now
    c.loop-part.part-index c.loop-part.sum
    (omega (arith, above_one c.args.setting.now c.prime.ensures.setting))
    (omega (arith, ap length c.parts-part-items.ensures)) c.loop-part.invariant.left)
