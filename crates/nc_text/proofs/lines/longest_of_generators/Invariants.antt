use Rattle.std.proofs.Common.{map, take, ◌≡◌}
use Rattle.nc_algebra.specs.Certificates.{longest}
use Rattle.nc_text.proofs.lines.longest_of_generators.Given as goal

abbrev pub invariant-generators : goal.invariant-generators
invariant-generators l = l.all.items ≡ map longest (take l.f-index l.setting.setting.generators)
