use Rattle.nc_algebra.proofs.Primes.{field_from_prime}
use Rattle.nc_theory.proofs.Desk.{event_counts, event_limits, event_runs, opened_limits}
use Rattle.nc_theory.proofs.Windows.{event_law, opened_law}
use Rattle.nc_theory.specs.Runs.{SequentialRun}
use Rattle.std.proofs.Common.{refl}
use Rattle.nc_theory.proofs.desk_laws.desks_are_kept.Goals as goal

pub returns : goal.returns
returns c P prime capacity =
    let field = field_from_prime P.problem.setting.prime prime in (
      record {
        runs = SequentialRun.opened;
        limited = opened_limits P capacity;
        window = opened_law P capacity field;
        counted = (refl, refl);
      },
      λ d d' e does sound. record {
        runs = event_runs P does sound.runs;
        limited = event_limits P does sound.limited;
        window = event_law P capacity field does sound.runs sound.window;
        counted = event_counts P does sound.counted;
      },
    )
