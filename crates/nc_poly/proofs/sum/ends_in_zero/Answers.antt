use Rattle.nc_poly.proofs.Passes.{last_some, split_last}
use Rattle.std.proofs.lemmas.Bool.{eqb-true}
use Rattle.nc_poly.proofs.sum.ends_in_zero.Goals as goal

pub returns-in-Some-clause-yes : goal.returns-in-Some-clause-yes
returns-in-Some-clause-yes g c zero =
    let parts =
    split_last c.args.map.now.entries (c.in-Some.field-0-0.now, c.in-Some.slot.now)
    c.in-Some.ensures.last in (
      parts.0,
      (c.in-Some.field-0-0.now, c.in-Some.slot.now),
      parts.1,
      eqb-true c.in-Some.slot.now.now 0 zero,
    )

pub returns-in-Some-clause-no : goal.returns-in-Some-clause-no
returns-in-Some-clause-no g c other front e is =
    last_some c.args.map.now.entries front e c.in-Some.field-0-0.now c.in-Some.slot.now
    c.in-Some.ensures.last is other
