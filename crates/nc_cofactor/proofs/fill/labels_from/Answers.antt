use Rattle.nc_algebra.specs.Monomials.{Sig}
use Rattle.nc_algebra.specs.Sums.{Term}
use Rattle.nc_cofactor.proofs.Filling.{AreFilledTo, all_filled, emptied, next_fails, next_few, none_filled, slot_fills, slot_named}
use Rattle.nc_cofactor.specs.Expanding.{AreNamedLabels, FailsToSum}
use Rattle.nc_cofactor.specs.Needed.{IsNewLabel}
use Rattle.nc_cofactor.specs.declared.fault.CofactorFault.TheVariants.{OutOfMemory}
use Rattle.nc_snapshot.specs.declared.outcome.Listed.TheVariants.{Entry as EntryOf}
use Rattle.nc_theory.specs.States.{Trace}
use Rattle.std.proofs.Common.{List, Some, ap, arith, length, subst, sym, vec_len, ◌+◌, ◌≡◌, ◌⊎◌}
use Rattle.nc_cofactor.proofs.fill.labels_from.Goals as goal

pub loop-slot-init : goal.loop-slot-init
loop-slot-init c =
    none_filled c.args.snapshot.now.problem.problem c.args.snapshot.now.handled c.args.marks.now
    c.in_ok-stack.stack.items c.new-labels.result.items c.args.limit c.new-labels.ensures.items
    c.in_ok-stack.ensures

pub next_label-requires-clause-few : goal.next_label-requires-clause-few
next_label-requires-clause-few c =
    omega (
      arith,
      next_few c.args.snapshot.now c.recall_rule.ensures.snapshot c.args.marks.now
          c.loop-slot.labels.items c.args.limit c.loop-slot.stack.items c.loop-slot.invariant,
      ap length c.as_slice.ensures.value,
    )

pub next_label-requires-clause-named : goal.next_label-requires-clause-named
next_label-requires-clause-named c x e =
    subst (λ (l : List (List (Term Sig))). AreNamedLabels c.args.snapshot.now.problem.problem
    c.args.snapshot.now.handled (EntryOf (length l + 1)) x l) (sym c.as_slice.ensures.value)
    (slot_named c.args.snapshot.now.problem c.recall_rule.ensures.snapshot.problem
    c.args.snapshot.now.handled c.args.marks.now c.loop-slot.labels.items c.args.limit
    c.loop-slot.stack.items c.loop-slot.invariant c.pop.new.self.items c.in-Some.slot
    c.in-Some.ensures.items x e)

pub loop-slot-preserved : goal.loop-slot-preserved
loop-slot-preserved c =
    subst (λ (l : List (List (Term Sig))). AreFilledTo c.args.snapshot.now.problem.problem
    c.args.snapshot.now.handled c.args.marks.now c.pop.new.self.items l c.args.limit)
    (sym c.in_ok-push-in-Ok.ensures.items)
    (slot_fills c.args.snapshot.now.problem c.recall_rule.ensures.snapshot.problem
    c.args.snapshot.now.handled c.args.marks.now c.loop-slot.labels.items c.args.limit
    c.loop-slot.stack.items c.loop-slot.invariant c.pop.new.self.items c.in-Some.slot
    c.in-Some.ensures.items c.in-Ok.label
    (subst (λ (l : List (List (Term Sig))). IsNewLabel c.args.snapshot.now.problem.problem
    c.args.snapshot.now.handled c.args.limit (length l + 1) c.in-Some.slot c.in-Ok.label)
    c.as_slice.ensures.value c.in-Ok.ensures.label))

pub returns-in-Err-clause-fault : goal.returns-in-Err-clause-fault
returns-in-Err-clause-fault c =
    next_fails c.args.snapshot.now c.recall_rule.ensures.snapshot c.args.marks.now
    c.loop-slot.labels.items c.args.limit c.loop-slot.stack.items c.loop-slot.invariant
    c.pop.new.self.items c.in-Some.slot c.in-Some.ensures.items c.in-Err.fault
    (subst (λ (l : List (List (Term Sig))). (c.in-Err.fault ≡ OutOfMemory)
    ⊎ ((x : Trace) × (c.in-Some.slot ≡ Some x)
    × FailsToSum c.args.snapshot.now.problem.problem c.args.snapshot.now.handled
    (EntryOf (length l + 1)) c.args.limit c.in-Err.fault)) c.as_slice.ensures.value
    c.in-Err.ensures.fault)

pub returns-clause-labels : goal.returns-clause-labels
returns-clause-labels c =
    all_filled c.args.snapshot.now.problem c.recall_rule.ensures.snapshot.problem
    c.args.snapshot.now.handled c.args.marks.now c.loop-slot.labels.items c.args.limit
    c.loop-slot.stack.items
    (emptied c.loop-slot.stack.items c.pop.new.self.items (vec_len c.loop-slot.stack)
    c.in_default.ensures.items c.in_default.ensures.rest c.in_default.ensures.cases.0)
    c.loop-slot.invariant
