use Rattle.std.proofs.Common.{rules, drop, map, string_bytes, true}
use Rattle.nc_options.specs.Options.{demo_names, demo_of}
use Rattle.nc_options.specs.declared.options.Options.TheVariants.{Demo}
use Rattle.nc_options.proofs.Chosen.{chosen}
use Rattle.nc_options.proofs.read.read_demo.Goals as goal

pub returns : goal.returns
returns c =
    chosen demo_of Demo demo_names _ true (drop 1 (map string_bytes c.args.words.now))
    c.in_ok-matches.matches _ _ c.in_ok-matches.ensures (search rules) c.demo_options.ensures
    c.ok_or.ensures.value
