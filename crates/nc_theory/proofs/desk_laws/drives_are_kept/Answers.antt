use Rattle.nc_algebra.proofs.Primes.{field_from_prime}
use Rattle.nc_theory.proofs.Driving.{drives_sound, emptied_sound}
use Rattle.nc_theory.proofs.desk_laws.drives_are_kept.Goals as goal

pub returns : goal.returns
returns c P prime capacity =
    let field = field_from_prime P.problem.setting.prime prime in (
      λ d sound. emptied_sound P field capacity d sound,
      λ d d' drives sound none. drives_sound P field capacity drives sound none,
    )
