use Rattle.nc_algebra.proofs.Primes.{field_from_prime}
use Rattle.nc_theory.proofs.Windows.{window_law}
use Rattle.nc_theory.proofs.desk_laws.window_law.Goals as goal

pub returns : goal.returns
returns c P prime capacity events d plays =
    window_law P capacity (field_from_prime P.problem.setting.prime prime) plays
