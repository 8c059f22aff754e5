use Rattle.std.proofs.Common.{◌≡◌, ◌++◌, take, codes, decimal}
use Rattle.std.specs.List.{flat_map}
use Rattle.nc_print.proofs.setting.append_weights.Given as goal

abbrev pub invariant-loop-m : goal.invariant-loop-m
invariant-loop-m l =
    l.out.items ≡ l.initial.out.items ++ flat_map (λ m. codes " " ++ decimal m)
    (take l.m-index l.weights)
