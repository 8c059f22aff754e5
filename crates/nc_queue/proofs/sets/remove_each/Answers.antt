use Rattle.nc_queue.specs.Queues.{IsDifference}
use Rattle.std.specs.Arc.{arc_value}
use Rattle.std.proofs.Common.{subst, arith, map}
use Rattle.nc_queue.proofs.sets.remove_each.Goals as goal
use Rattle.nc_queue.proofs.Growth.{difference_more}
use Rattle.std.proofs.lemmas.List.{take_all}

pub loop-sig-preserved : goal.loop-sig-preserved
loop-sig-preserved c = record {
  rest = difference_more arc_value (map arc_value c.args.kept.now.keys)
      (map arc_value c.loop-sig.kept.keys) (map arc_value c.remove_one.new.kept.keys)
      c.args.sigs.now c.loop-sig.sig-index c.sig-item.result (omega arith) c.sig-item.is
      c.loop-sig.invariant.rest c.remove_one.ensures.rest;
  ascending = c.remove_one.ensures.ascending;
}

pub returns-clause-rest : goal.returns-clause-rest
returns-clause-rest c =
    subst (λ xs. IsDifference (map arc_value c.args.kept.now.keys) (map arc_value xs)
    (map arc_value c.loop-sig.kept.keys)) (take_all _ _ (omega arith)) c.loop-sig.invariant.rest
