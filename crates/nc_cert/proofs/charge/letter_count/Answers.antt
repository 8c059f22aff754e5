use Rattle.nc_algebra.specs.Polynomials.{Polynomial}
use Rattle.nc_cert.proofs.Sizes.{letters_more}
use Rattle.std.proofs.Common.{ap, arith, get_or, length, ◌∙◌}
use Rattle.nc_cert.proofs.charge.letter_count.Goals as goal

pub loop-term-preserved : goal.loop-term-preserved
loop-term-preserved c = record {
  letters =
      omega (
        arith,
        c.loop-term.invariant.letters,
        ap length c.letters.ensures.letters,
        letters_more c.args.f.now c.loop-term.term-index c.term-item.result
            (omega (arith, ap length c.terms-term-items.ensures.terms))
            (c.term-item.is ∙ ap (λ (f : Polynomial). get_or f c.loop-term.term-index
            c.term-item.result) c.terms-term-items.ensures.terms),
      );
  few = omega (
    arith,
    c.loop-term.invariant.few,
    ap length c.letters.ensures.letters,
    c.letters.ensures.few,
  );
}
