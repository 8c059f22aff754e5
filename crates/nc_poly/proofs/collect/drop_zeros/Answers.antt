use Rattle.nc_poly.specs.Collecting.{has_coefficient}
use Rattle.std.proofs.Common.{rules}
use Rattle.std.proofs.lemmas.Fn.{filter_same}
use Rattle.nc_poly.proofs.collect.drop_zeros.Goals as goal

pub returns : goal.returns
returns c = filter_same _ has_coefficient _ (λ x b f h. search rules) _ _ c.retain.ensures.filtered
