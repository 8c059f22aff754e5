use Rattle.std.proofs.Common.{rules, drop, map, string_bytes, false}
use Rattle.nc_options.specs.Options.{basis_names, basis_of}
use Rattle.nc_options.specs.declared.options.Options.TheVariants.{Basis}
use Rattle.nc_options.proofs.Chosen.{chosen}
use Rattle.nc_options.proofs.read.read_basis.Goals as goal

pub returns : goal.returns
returns c =
    chosen basis_of Basis basis_names _ false (drop 1 (map string_bytes c.args.words.now))
    c.in_ok-matches.matches _ _ c.in_ok-matches.ensures (search rules) c.basis_options.ensures
    c.ok_or.ensures.value
