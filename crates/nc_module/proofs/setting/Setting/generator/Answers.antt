use Rattle.nc_algebra.specs.Alphabets.{IsTextGenerator}
use Rattle.nc_algebra.specs.Settings.{IsSetting, NamedSetting}
use Rattle.nc_algebra.specs.Elements.{generator}
use Rattle.nc_algebra.specs.Polynomials.{Polynomial}
use Rattle.nc_algebra.proofs.Generators.{generator_is_text}
use Rattle.nc_module.proofs.Settings.{generator_read}
use Rattle.std.proofs.Common.{ap, get_or, subst, sym, ◌-◌, ◌∙◌, ◌≡◌}
use Rattle.nc_module.proofs.setting.Setting.generator.Goals as goal

pub returns-clause-generator : goal.returns-clause-generator
returns-clause-generator c =
    let f : Polynomial = c.index.result.now in
    generator_read c.args.self.now c.args.i f c.requires
    (c.index.ensures ∙ ap (λ (s : NamedSetting). get_or s.setting.generators (c.args.i - 1) f)
    c.self.view_is)

pub returns-clause-text : goal.returns-clause-text
returns-clause-text c =
    let f : Polynomial = c.index.result.now in
    let is : f ≡ generator c.args.self.now.setting c.args.i =
    generator_read c.args.self.now c.args.i f c.requires
    (c.index.ensures ∙ ap (λ (s : NamedSetting). get_or s.setting.generators (c.args.i - 1) f)
    c.self.view_is) in
    subst (IsTextGenerator c.args.self.now.alphabet c.args.self.now.setting.prime) (sym is)
    (generator_is_text c.args.self.now c.args.i
    (subst IsSetting c.self.view_is c.self.invariant) c.requires)
