use Rattle.nc_algebra.specs.Certificates.{values_of}
use Rattle.nc_algebra.specs.Polynomials.{normal_form}
use Rattle.nc_cert.specs.Charges.{charges_of, total}
use Rattle.nc_cert.specs.Spent.{letter_count}
use Rattle.std.proofs.Common.{map, take, ◌≡◌, ◌≤◌}
use Rattle.nc_cert.proofs.taking.take_lines.Given as goal

abbrev pub invariant-loop-line : goal.invariant-loop-line
invariant-loop-line l = record {
  values : l.values.items ≡ map (normal_form l.setting.setting.prime)
      (values_of l.setting.setting (take l.line-index l.lines));
  letters : l.letters.items ≡ map letter_count l.values.items;
  spent : l.spent ≡ total (charges_of l.setting.setting (take l.line-index l.lines));
  within : l.spent ≤ l.limit;
}
