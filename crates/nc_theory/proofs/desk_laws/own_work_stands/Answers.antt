use Rattle.nc_algebra.proofs.Primes.{field_from_prime}
use Rattle.nc_theory.proofs.Plays.{ready_commits}
use Rattle.nc_theory.proofs.Windows.{own_work}
use Rattle.nc_theory.proofs.desk_laws.own_work_stands.Goals as goal

pub returns : goal.returns
returns c P prime capacity events d plays τ n w ready e = (
  own_work P capacity (field_from_prime P.problem.setting.prime prime) plays τ n w ready e,
  λ u d' a. ready_commits P.problem a u τ n w ready
      (own_work P capacity (field_from_prime P.problem.setting.prime prime) plays τ n w ready e),
)
