use Rattle.nc_algebra.specs.Certificates.{IsFactor, factor_reach}
use Rattle.nc_algebra.specs.Elements.{IsGenerator}
use Rattle.nc_module.specs.Factors.{factor_of}
use Rattle.nc_module.specs.declared.line.Of.{Of}
use Rattle.nc_text.proofs.Reaches.{generator_reach}
use Rattle.std.proofs.Common.{ap, length, subst, sym, ◌∙◌}
use Rattle.nc_text.proofs.lines.inside_of.Goals as goal

pub returns-in-Generator-clause-value : goal.returns-in-Generator-clause-value
returns-in-Generator-clause-value c =
    let s = c.args.setting.now.setting in
    let g : IsGenerator s c.in-Generator.i =
    subst (λ (o : Of). IsFactor s (length c.args.reaches.now) (factor_of o)) c.in-Generator.is
    c.requires.factor in
    generator_reach s c.in-Generator.i c.args.longest.now c.requires.generators g
    ∙ sym (ap (λ (o : Of). factor_reach s c.args.reaches.now (factor_of o)) c.in-Generator.is)
