use Rattle.nc_algebra.specs.Elements.{generator}
use Rattle.nc_algebra.specs.Monomials.{Sig}
use Rattle.nc_algebra.specs.Sums.{Term}
use Rattle.nc_module.proofs.Modules.{term_short, value_taken}
use Rattle.std.proofs.Common.{ap, ◌%◌, ◌-◌, ◌∙◌}
use Rattle.std.proofs.lemmas.Result.{on_ok_weaker}
use Rattle.nc_module.proofs.module.add_value.Goals as goal

pub sub_multiple-requires-clause-few : goal.sub_multiple-requires-clause-few
sub_multiple-requires-clause-few c =
    let s = c.args.setting.now in
    term_short s.setting s.alphabet c.args.t.now c.generator-f.result.now c.letters-left.result.now
    c.letters-right.result.now c.requires.degree c.requires.few c.generator-f.ensures.text
    (c.letters-left.ensures.letters
    ∙ (ap (λ i. i.at.left) c.t-inside.view_is
    ∙ ap (λ (t : Term Sig). t.key.left) c.t.view_is))
    (c.letters-right.ensures.letters
    ∙ (ap (λ i. i.at.right) c.t-inside.view_is
    ∙ ap (λ (t : Term Sig). t.key.right) c.t.view_is))

pub returns-clause-sum : goal.returns-clause-sum
returns-clause-sum c =
    on_ok_weaker c.sub_multiple.result
    (λ is. value_taken c.args.setting.now.setting c.args.t.now c.prime-p.result c.neg.result
    c.letters-left.result.now c.letters-right.result.now c.generator-f.result.now
    c.args.sum.now c.sub_multiple.new.self c.requires.residue
    c.prime-p.ensures.prime
    (c.neg.ensures.value ∙ (ap (λ i. (c.prime-p.result - i.coefficient) % c.prime-p.result)
    c.t-inside.view_is ∙ ap (λ (t : Term Sig). (c.prime-p.result - t.coefficient)
    % c.prime-p.result) c.t.view_is))
    (c.letters-left.ensures.letters
    ∙ (ap (λ i. i.at.left) c.t-inside.view_is
    ∙ ap (λ (t : Term Sig). t.key.left) c.t.view_is))
    (c.generator-f.ensures.generator
    ∙ (ap (λ i. generator c.args.setting.now.setting i.at.generator) c.t-inside.view_is
    ∙ ap (λ (t : Term Sig). generator c.args.setting.now.setting t.key.generator)
    c.t.view_is))
    (c.letters-right.ensures.letters
    ∙ (ap (λ i. i.at.right) c.t-inside.view_is
    ∙ ap (λ (t : Term Sig). t.key.right) c.t.view_is))
    is) c.sub_multiple.ensures.difference
