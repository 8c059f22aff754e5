use Rattle.nc_theory.proofs.Rebuilding.{reduction_front, regular_front}
use Rattle.nc_theory.proofs.run_laws.front_law.Goals as goal

pub returns : goal.returns
returns c s first rest τ others =
    (regular_front s first rest τ others, reduction_front s first rest τ others)
