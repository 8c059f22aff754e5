use Rattle.std.proofs.Common.{◌≡◌, false, map, take}
use Rattle.nc_options.specs.Commands.{command_for}
use Rattle.clap.specs.Words.{app_of}
use Rattle.nc_options.proofs.split.command.Given as goal

abbrev pub invariant-loop-option_name : goal.invariant-loop-option_name
invariant-loop-option_name l =
    app_of l.command ≡ command_for l.name (map (λ n. n.now) (take l.option_name-index l.names))
    false
