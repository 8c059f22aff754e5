use Rattle.nc_algebra.specs.Certificates.{longest}
use Rattle.nc_algebra.specs.Polynomials.{Polynomial}
use Rattle.nc_text.proofs.Reaches.{all_longest, longest_list_more}
use Rattle.std.proofs.Common.{List, ap, arith, get_or, length, map, subst, sym, ℕ, ◌++◌, ◌∙◌, ◌∷◌, ◌<◌, [], ◌≤◌}
use Rattle.std.proofs.lemmas.List.{take_all}
use Rattle.std.specs.List.{All}
use Rattle.nc_text.proofs.lines.longest_of_generators.Goals as goal

pub generators-init : goal.generators-init
generators-init c = c.new-all.ensures.items

pub generators-preserved : goal.generators-preserved
generators-preserved c =
    let fs : List Polynomial = c.args.setting.now.setting.generators in
    let same = c.generators-f-items.ensures.generators in
    let within =
    subst (λ (gs : List Polynomial). c.generators.f-index < length gs) same
    c.generators-test.true in
    let is =
    c.f-item.is ∙ ap (λ (gs : List Polynomial). get_or gs c.generators.f-index c.f-item.result)
    same in
    longest_list_more fs c.generators.f-index c.f-item.result c.generators.all.items _ within is
    c.generators.invariant (c.in_ok-push.ensures.items
    ∙ ap (λ n. c.generators.all.items ++ n ∷ []) c.longest.ensures)

pub returns-clause-generators : goal.returns-clause-generators
returns-clause-generators c =
    c.generators.invariant ∙ ap (map longest)
    (take_all c.generators.f-index c.args.setting.now.setting.generators
    (omega (arith, c.generators-test.false, ap length c.generators-f-items.ensures.generators)))

pub returns-clause-short : goal.returns-clause-short
returns-clause-short c =
    let whole =
    c.generators.invariant ∙ ap (map longest)
    (take_all c.generators.f-index c.args.setting.now.setting.generators
    (omega (
      arith,
      c.generators-test.false,
      ap length c.generators-f-items.ensures.generators,
    ))) in
    subst (λ (l : List ℕ). All (λ m. m ≤ 100000) l) (sym whole)
    (all_longest c.args.setting.now c.generators-f-items.ensures.setting)
