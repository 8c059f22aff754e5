use Rattle.nc_poly.proofs.Tops.{terms_descend}
use Rattle.nc_poly.specs.Keeping.{now_of}
use Rattle.nc_poly.proofs.sum.Sum.add_all.Goals as goal

pub returns-clause-descending : goal.returns-clause-descending
returns-clause-descending g c =
    terms_descend g.K.Ord.cmp now_of c.add_or_go_back.new.map.entries
    c.add_or_go_back.ensures.ordered
