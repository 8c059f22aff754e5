use Rattle.nc_cofactor.proofs.Steps.{added}
use Rattle.nc_theory.specs.States.{Step}
use Rattle.std.proofs.Common.{ap, ◌∙◌}
use Rattle.nc_cofactor.proofs.label.add_step.Goals as goal

pub returns : goal.returns
returns c =
    added c.args.setting.now.setting c.args.labels.now c.args.step.now c.letters.result.now
    c.step.inside.number c.letters-2.result.now c.args.c
    c.label_in-label.result.now c.args.sum.now c.add_multiple.new.sum
    (c.letters.ensures.letters ∙ ap (λ (s : Step). s.left) c.step.view_is)
    (ap (λ (s : Step). s.number) c.step.view_is) (c.letters-2.ensures.letters
    ∙ ap (λ (s : Step). s.right) c.step.view_is)
    c.label_in-label.ensures c.requires.residue c.requires.placed c.in_ok-add_multiple.ensures.sum
    c.in_ok-add_multiple.ensures.descends c.in_ok-add_multiple.ensures.residues
