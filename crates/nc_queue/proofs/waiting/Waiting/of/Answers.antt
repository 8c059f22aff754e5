use Rattle.nc_algebra.specs.Monomials.{Sig as Value, compare_sigs}
use Rattle.nc_queue.proofs.Mapped.{sorted_map}
use Rattle.nc_queue.specs.Queues.{IsUnitTo}
use Rattle.std.specs.Arc.{arc_value}
use Rattle.std.proofs.Common.{subst, sym, ap, arith, Contains, [], map, ◌↔◌, ◌≡◌, length}
use Rattle.nc_queue.proofs.waiting.Waiting.of.Goals as goal
use Rattle.nc_queue.proofs.Units.{units_all, units_more, units_none}

pub loop-index-init : goal.loop-index-init
loop-index-init c =
    let e : map arc_value c.new-kept.result.keys ≡ [] =
    ap (map arc_value) c.new-kept.ensures.empty in
    record {
      units = subst (λ ss. (σ : Value) → Contains ss σ
          ↔ IsUnitTo c.args.problem.now.problem 0 σ) (sym e)
          (units_none c.args.problem.now.problem);
      ascending = sorted_map arc_value compare_sigs c.new-kept.result.keys
          c.new-kept.ensures.ordered;
    }

pub loop-index-preserved : goal.loop-index-preserved
loop-index-preserved c = record {
  units = units_more c.args.problem.now.problem c.loop-index.index
      (map arc_value c.loop-index.kept.keys) (map arc_value c.insert_unit.new.kept.keys)
      c.in_ok-insert_unit.ensures.added c.loop-index.invariant.units;
  ascending = c.insert_unit.ensures.ascending;
}

pub returns-clause-units : goal.returns-clause-units
returns-clause-units c =
    units_all c.args.problem.now.problem c.loop-index.index (map arc_value c.loop-index.kept.keys)
    (omega (
      arith,
      ap length c.generators-index-end.ensures.generators,
      ap (λ s. length s.setting.generators) c.setting.ensures.setting,
    ))
    c.loop-index.invariant.units
