use Rattle.nc_queue.specs.Queues.{IsUnion, IsWith}
use Rattle.std.specs.Arc.{arc_value}
use Rattle.std.proofs.Common.{subst, sym, arith, take, map}
use Rattle.nc_queue.proofs.sets.insert_each.Goals as goal
use Rattle.nc_queue.proofs.Growth.{union_more}
use Rattle.std.proofs.lemmas.List.{take_all}

pub loop-sig-preserved : goal.loop-sig-preserved
loop-sig-preserved c = record {
  added = union_more arc_value (map arc_value c.args.kept.now.keys)
      (map arc_value c.loop-sig.kept.keys) (map arc_value c.insert_one.new.kept.keys)
      c.args.sigs.now c.loop-sig.sig-index c.sig-item.result (omega arith) c.sig-item.is
      c.loop-sig.invariant.added (subst
      (λ σ. IsWith (map arc_value c.loop-sig.kept.keys) σ
      (map arc_value c.insert_one.new.kept.keys)) c.in_ok-try_clone.ensures
      c.in_ok-insert_one.ensures.added);
  ascending = c.insert_one.ensures.ascending;
}

pub returns-in_err-insert_one-clause-some : goal.returns-in_err-insert_one-clause-some
returns-in_err-insert_one-clause-some c = (
  c.loop-sig.sig-index,
  subst (λ ks. IsUnion (map arc_value c.args.kept.now.keys)
      (map arc_value (take c.loop-sig.sig-index c.args.sigs.now)) (map arc_value ks))
      (sym c.in_err-insert_one.ensures.err) c.loop-sig.invariant.added,
)

pub returns-clause-all : goal.returns-clause-all
returns-clause-all c =
    subst (λ xs. IsUnion (map arc_value c.args.kept.now.keys) (map arc_value xs)
    (map arc_value c.loop-sig.kept.keys)) (take_all _ _ (omega arith)) c.loop-sig.invariant.added
