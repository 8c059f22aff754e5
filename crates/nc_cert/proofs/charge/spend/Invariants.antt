use Rattle.nc_cert.specs.Spent.{kept_charge}
use Rattle.std.proofs.Common.{sum_by, take, ◌+◌, ◌≡◌, ◌≤◌}
use Rattle.nc_cert.proofs.charge.spend.Given as goal

abbrev pub invariant-loop-part : goal.invariant-loop-part
invariant-loop-part l = record {
  spent : l.spent ≡ l.fn.spent + sum_by (kept_charge l.setting.setting l.values)
      (take l.part-index l.line);
  within : l.spent ≤ l.limit;
}
