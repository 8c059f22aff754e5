use Rattle.std.proofs.Common.{sym, subst, ℕ}
use Rattle.nc_field.proofs.Inverses.{IsStep, first_step, next_step}
use Rattle.nc_field.proofs.prime.Prime.inverse.Goals as goal

pub loop-divisor-init : goal.loop-divisor-init
loop-divisor-init c =
    subst (λ (n : ℕ). IsStep c.args.self.now c.args.a n 0 c.args.a 1)
    (sym c.number-dividend.ensures.value)
    (first_step c.args.self.now c.args.a c.number-dividend.ensures.prime c.requires.some
    c.requires.below)

pub loop-divisor-preserved : goal.loop-divisor-preserved
loop-divisor-preserved c =
    next_step _ _ _ _ _ _ _ _ c.loop-divisor.invariant c.loop-divisor-test.true
    c.mul-multiple.ensures.below c.mul-multiple.ensures.value
    c.sub-rest_factor.ensures.below c.sub-rest_factor.ensures.value
