use Rattle.nc_overlap.proofs.Sides.{only_greater}
use Rattle.nc_overlap.specs.Sides.{side_sig}
use Rattle.std.proofs.Common.{Equal, Greater, Less, sym, ◌∙◌}
use Rattle.nc_overlap.proofs.side.Side.greater.Goals as goal

pub returns-in-Less-clause-greater : goal.returns-in-Less-clause-greater
returns-in-Less-clause-greater c s h j =
    only_greater s (side_sig c.args.self.now) (side_sig c.args.other.now) Less h j
    (sym c.in-Less.is ∙ c.compare.ensures)

pub returns-in-Equal-clause-greater : goal.returns-in-Equal-clause-greater
returns-in-Equal-clause-greater c s h j =
    only_greater s (side_sig c.args.self.now) (side_sig c.args.other.now) Equal h j
    (sym c.in-Equal.is ∙ c.compare.ensures)

pub returns-in-Greater-clause-greater : goal.returns-in-Greater-clause-greater
returns-in-Greater-clause-greater c s h j =
    only_greater s (side_sig c.args.self.now) (side_sig c.args.other.now) Greater h j
    (sym c.in-Greater.is ∙ c.compare.ensures)
