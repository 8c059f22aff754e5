use Rattle.std.specs.Arc.{arc_value}
use Rattle.std.proofs.Common.{rules, subst, ap, ◌∙◌, map, ◌≡◌}
use Rattle.nc_queue.proofs.waiting.insert_unit.Goals as goal
use Rattle.nc_algebra.specs.Elements.{generator_weight}
use Rattle.nc_algebra.specs.Monomials.{monomial_of, sig_of, unit_monomial}
use Rattle.nc_algebra.specs.Problems.{IsWithin}
use Rattle.nc_queue.proofs.Units.{unit_added, unit_sig}
use Rattle.std.proofs.lemmas.Result.{on_ok_weaker}

pub returns-clause-added : goal.returns-clause-added
returns-clause-added c =
    let weighs : c.weight-weight.result ≡ generator_weight c.args.problem.now.problem.setting
    c.args.number =
    c.weight-weight.ensures.weight ∙ ap (λ s. generator_weight s.setting c.args.number)
    c.setting.ensures.setting in
    let unit : c.of-sig.result ≡ sig_of (generator_weight c.args.problem.now.problem.setting)
    (unit_monomial c.args.number) =
    unit_sig c.args.problem.now.problem c.weight-weight.result c.args.number c.empty.result
    c.empty-2.result c.of-sig.result c.of-sig.ensures c.empty.ensures c.empty-2.ensures
    weighs in
    let within : IsWithin c.args.problem.now.problem (unit_monomial c.args.number) =
    subst (IsWithin c.args.problem.now.problem) (ap monomial_of unit)
    (c.within.ensures.0 (search rules)) in
    on_ok_weaker c.insert_one.result
    (unit_added c.args.problem.now.problem c.args.number c.in_ok-new.field-0.value
    (map arc_value c.args.kept.now.keys) (map arc_value c.insert_one.new.kept.keys)
    (c.in_ok-new.ensures.ok ∙ unit) within) c.insert_one.ensures.added
