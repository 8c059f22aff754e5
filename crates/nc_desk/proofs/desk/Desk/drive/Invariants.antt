use Rattle.nc_desk.specs.Desks.{IsLater}
use Rattle.std.proofs.Common.{◌-◌, ◌≡◌}
use Rattle.nc_desk.proofs.desk.Desk.drive.Given as goal

abbrev pub invariant-steps : goal.invariant-steps
invariant-steps l =
    record { later : IsLater l.fn.self l.desk; begun : l.begun ≡ l.fn.self.snapshot.handled }

abbrev pub decreases-steps : goal.decreases-steps
decreases-steps l = l.desk.snapshot.problem.problem.steps - l.desk.snapshot.handled
