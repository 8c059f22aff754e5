use Rattle.nc_algebra.specs.Alphabets.{IsTextGenerator}
use Rattle.nc_algebra.specs.Elements.{generator_weight}
use Rattle.nc_algebra.specs.Sums.{Term}
use Rattle.nc_algebra.specs.Words.{Word, word_weight}
use Rattle.nc_module.proofs.Settings.{generator_weighs, weight_first}
use Rattle.std.proofs.Common.{ap, arith, refl, subst, sym, ◌∙◌, ◌≡◌}
use Rattle.nc_module.proofs.setting.Setting.weight.Goals.{After-weight}
use Rattle.nc_module.proofs.setting.Setting.weight.Goals as goal

pub unreachable-requires : goal.unreachable-requires
unreachable-requires c = c.generator.ensures.text.nonzero (c.in-None.ensures.none.0 refl)

is_weight : (c : After-weight)
    → c.weight.result ≡ generator_weight c.args.self.now.setting c.args.i
is_weight c =
    let s = c.args.self.now in
    let first = c.in-Some.ensures.some in
    let text =
    subst (IsTextGenerator s.alphabet s.setting.prime) c.generator.ensures.generator
    c.generator.ensures.text in
    c.weight.ensures.weight ∙ (ap (λ (t : Term Word). word_weight t.key) c.term.view_is
    ∙ sym (weight_first s c.args.i c.in-Some.term.now first.0 text
    (sym c.generator.ensures.generator ∙ first.1)))

pub returns-clause-weight : goal.returns-clause-weight
returns-clause-weight c = is_weight (goal.at.returns-clause-weight c).After-weight

pub returns-clause-few : goal.returns-clause-few
returns-clause-few c =
    omega (
      arith,
      is_weight (goal.at.returns-clause-few c).After-weight,
      generator_weighs c.args.self.now c.args.i c.generator.ensures.setting c.requires,
    )
