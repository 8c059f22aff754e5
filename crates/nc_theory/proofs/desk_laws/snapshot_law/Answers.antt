use Rattle.nc_theory.proofs.Desk.{goes_on, snapshot}
use Rattle.nc_theory.proofs.desk_laws.snapshot_law.Goals as goal

pub returns : goal.returns
returns c P =
    (λ events d d' plays. goes_on P plays, λ capacity events d plays. snapshot P capacity plays)
