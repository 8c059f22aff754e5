use Rattle.nc_theory.proofs.UntracedSteps.{goes_on}
use Rattle.nc_theory.proofs.untraced_laws.untraced_steps.Goals as goal
use Rattle.nc_theory.specs.Runs.{SequentialRun, opening}
use Rattle.std.proofs.Common.{refl}

pub returns : goal.returns
returns c P = (
  record { run = opening; runs = SequentialRun.opened; stands = refl },
  λ prime n state last r. goes_on P prime n state last r,
)
