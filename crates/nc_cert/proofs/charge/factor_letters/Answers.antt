use Rattle.nc_algebra.specs.Certificates.{IsFactor, factor_value}
use Rattle.nc_cert.proofs.Sizes.{generator_letters}
use Rattle.nc_cert.specs.Spent.{letter_count}
use Rattle.nc_module.specs.Factors.{factor_of}
use Rattle.std.proofs.Common.{arith, get_or, length, subst, sym, ◌-◌, ◌≡◌}
use Rattle.nc_cert.proofs.charge.factor_letters.Goals as goal

pub returns-in-Generator : goal.returns-in-Generator
returns-in-Generator c =
    let some =
    subst (λ of. IsFactor c.args.setting.now.setting (length c.args.values.now) (factor_of of))
    c.in-Generator.is c.requires.some in
    subst (λ of. get_or c.args.generators.now (c.in-Generator.i - 1) 0 ≡ letter_count
    (factor_value c.args.setting.now.setting c.args.values.now (factor_of of)))
    (sym c.in-Generator.is)
    (generator_letters c.args.setting.now.setting c.in-Generator.i (c.in-Generator.i - 1)
    c.args.generators.now (omega (arith, some.0)) c.requires.generators)
