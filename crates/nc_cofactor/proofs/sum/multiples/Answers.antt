use Rattle.nc_algebra.specs.Monomials.{Sig, sig_times}
use Rattle.nc_algebra.specs.Sums.{Term}
use Rattle.nc_module.proofs.Modules.{moved_more}
use Rattle.std.proofs.Common.{[], ap, ◌%◌, ◌*◌, ◌∙◌}
use Rattle.nc_cofactor.proofs.sum.multiples.Goals as goal

pub loop-t-preserved : goal.loop-t-preserved
loop-t-preserved c =
    moved_more c.args.m.now [] c.loop-t.pairs.items c.push.new.self.items c.loop-t.t-index
    c.t-item.result (c.in_ok-at.at, c.mul.result) c.loop-t-test.true c.t-item.is
    c.in_ok-push.ensures.items c.args.p c.args.c (λ σ. sig_times c.args.u.now σ c.args.v.now)
    c.loop-t.invariant
    (c.in_ok-at.ensures ∙ ap (λ (t : Term Sig). sig_times c.args.u.now t.key c.args.v.now)
    c.t.view_is)
    (c.mul.ensures.value ∙ ap (λ (t : Term Sig). (c.args.c * t.coefficient) % c.args.p) c.t.view_is)
