use Rattle.nc_theory.proofs.UntracedEnds.{one_end}
use Rattle.nc_theory.proofs.untraced_laws.one_end.Goals as goal

pub returns : goal.returns
returns c P prime n m state state' e e' a b = one_end P prime n m state state' e e' a b
