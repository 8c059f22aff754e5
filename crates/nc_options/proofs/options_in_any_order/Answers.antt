use Rattle.nc_options.proofs.AnyOrder.{any_order}
use Rattle.nc_options.proofs.options_in_any_order.Goals as goal

pub returns : goal.returns
returns c = any_order
