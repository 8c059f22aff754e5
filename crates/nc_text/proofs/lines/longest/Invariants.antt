use Rattle.std.proofs.Common.{take, ◌≡◌}
use Rattle.nc_algebra.specs.Certificates.{longest}
use Rattle.nc_text.proofs.lines.longest.Given as goal

abbrev pub invariant-terms : goal.invariant-terms
invariant-terms l = l.most ≡ longest (take l.t-index l.f)
