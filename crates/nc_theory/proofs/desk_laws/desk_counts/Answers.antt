use Rattle.nc_theory.proofs.Desk.{counted, counts_on}
use Rattle.nc_theory.proofs.desk_laws.desk_counts.Goals as goal

pub returns : goal.returns
returns c P =
    (λ events d d' plays. counts_on P plays, λ capacity events d plays. counted P capacity plays)
