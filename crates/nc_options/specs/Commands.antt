-- The commands that are handed to `clap`, as the data that its contracts speak of.
--
-- Each option takes a value, and so does the number. The flag `--help`, which `clap` adds to
-- commands, is switched off.
use Rattle.std.specs.Prelude.{Bool, true, false, List, [], ◌∷◌, Some}
use Rattle.nc_options.specs.Pieces.{Text}
use Rattle.nc_options.specs.Uses.{number_id}
use Rattle.clap.specs.Walk.{Rule}
use Rattle.clap.specs.Simple.{App, new_rule, new_shape}
use Rattle.clap.specs.declared.builder.action.ArgAction.TheVariants.{Set}

-- an option: `Arg::new(alloc, name).long(name).action(ArgAction::Set)`
abbrev pub option_arg : Text → Rule
option_arg name = record (new_rule name) { long = Some name; action = Some Set }

-- the number: `Arg::new(alloc, "number").action(ArgAction::Set)`
abbrev pub number_arg : Rule
number_arg = record (new_rule number_id) { action = Some Set }

-- the options, and then the number
abbrev pub args_for : List Text → Bool → List Rule
args_for [] true = number_arg ∷ []
args_for [] false = []
args_for (name ∷ names) takes_number = option_arg name ∷ args_for names takes_number

-- a command with these options, maybe with a number, and without `--help`
abbrev pub command_for : Text → List Text → Bool → App
command_for name names takes_number = record {
  top = record (new_shape name) { rules = args_for names takes_number; disable_help_flag = true };
  subs = [];
}
