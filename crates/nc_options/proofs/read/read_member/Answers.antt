use Rattle.std.proofs.Common.{rules, drop, map, string_bytes, false}
use Rattle.nc_options.specs.Options.{member_names, member_of}
use Rattle.nc_options.specs.declared.options.Options.TheVariants.{Member}
use Rattle.nc_options.proofs.Chosen.{chosen}
use Rattle.nc_options.proofs.read.read_member.Goals as goal

pub returns : goal.returns
returns c =
    chosen member_of Member member_names _ false (drop 1 (map string_bytes c.args.words.now))
    c.in_ok-matches.matches _ _ c.in_ok-matches.ensures (search rules) c.member_options.ensures
    c.ok_or.ensures.value
