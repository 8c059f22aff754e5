use Rattle.nc_algebra.proofs.NormalForms.{normal_form_same}
use Rattle.nc_poly.proofs.accumulator.make_room.Goals as goal

pub returns-in_err-reserve-clause-same : goal.returns-in_err-reserve-clause-same
returns-in_err-reserve-clause-same c =
    rw (c.reserve.ensures.items, c.collect.ensures.normal)
    (normal_form_same c.args.p c.args.kept.now.items)

pub returns-in_ok-reserve-clause-same : goal.returns-in_ok-reserve-clause-same
returns-in_ok-reserve-clause-same c =
    rw (c.reserve.ensures.items, c.collect.ensures.normal)
    (normal_form_same c.args.p c.args.kept.now.items)
