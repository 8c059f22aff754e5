use Rattle.nc_options.proofs.Spellings.{order_is_free}
use Rattle.nc_options.proofs.order_is_free.Goals as goal

pub returns : goal.returns
returns c = order_is_free
