use Rattle.nc_algebra.specs.Monomials.{Sig}
use Rattle.nc_algebra.specs.Polynomials.{normal_form}
use Rattle.nc_algebra.specs.Sums.{Term}
use Rattle.nc_field.proofs.Primes.{listed_is_prime}
use Rattle.nc_module.proofs.Modules.{value_ends, value_step}
use Rattle.std.proofs.Common.{List, ap, arith, get_or, length, ◌∙◌}
use Rattle.nc_module.proofs.module.Module.eval.Goals as goal

pub loop-t-preserved : goal.loop-t-preserved
loop-t-preserved c = record {
  residues = c.in_ok-add_value.ensures.residues;
  value = value_step c.args.setting.now.setting c.args.self.now c.loop-t.t-index c.t-item.result
      c.loop-t.sum c.add_value.new.sum
      (omega (arith, c.loop-t-test.true, ap length c.terms-t-items.ensures.terms))
      (c.t-item.is ∙ ap (λ (l : List (Term Sig)). get_or l c.loop-t.t-index c.t-item.result)
      c.terms-t-items.ensures.terms) c.in_ok-add_value.ensures.sum c.loop-t.invariant.value;
}

pub returns : goal.returns
returns c =
    c.finish.ensures ∙ (ap (λ n. normal_form n c.loop-t.sum) c.prime.ensures.prime
    ∙ value_ends c.args.setting.now.setting c.args.self.now c.loop-t.t-index c.loop-t.sum
    (omega (
      arith,
      (listed_is_prime c.args.setting.now.setting.prime
          c.prime.ensures.setting.prime).above_one,
    ))
    (omega (arith, ap length c.terms-t-items.ensures.terms)) c.loop-t.invariant.value)
