use Rattle.nc_cofactor.proofs.Needing.{IsWayOf, loop_begins, loop_ends, loop_steps, loop_within}
use Rattle.nc_theory.specs.States.{Trace}
use Rattle.std.proofs.Common.{List, Option, arith, subst, sym, ◌-◌}
use Rattle.nc_cofactor.proofs.sweep.traces_from.Goals as goal

pub loop-left-init : goal.loop-left-init
loop-left-init c =
    loop_begins c.args.snapshot.now.problem c.recall_rule.ensures.snapshot.problem
    c.args.snapshot.now.handled c.args.snapshot.now.state c.recall_rule.ensures.snapshot.run
    c.args.marks.now c.entries-left.result c.new-stack.result.items c.entries-left.ensures.count
    c.requires.size c.new-stack.ensures.items

pub slot_at-requires-clause-within : goal.slot_at-requires-clause-within
slot_at-requires-clause-within c =
    (loop_within c.args.snapshot.now.problem c.recall_rule.ensures.snapshot.problem
    c.args.snapshot.now.handled c.args.snapshot.now.state c.recall_rule.ensures.snapshot.run
    c.args.marks.now c.loop-left.left c.loop-left.marks c.loop-left.stack.items
    c.loop-left.invariant).0

pub slot_at-requires-clause-size : goal.slot_at-requires-clause-size
slot_at-requires-clause-size c =
    (loop_within c.args.snapshot.now.problem c.recall_rule.ensures.snapshot.problem
    c.args.snapshot.now.handled c.args.snapshot.now.state c.recall_rule.ensures.snapshot.run
    c.args.marks.now c.loop-left.left c.loop-left.marks c.loop-left.stack.items
    c.loop-left.invariant).1

pub loop-left-preserved : goal.loop-left-preserved
loop-left-preserved c =
    subst (λ (l : List (Option Trace)). IsWayOf c.args.snapshot.now.problem.problem
    c.args.snapshot.now.handled c.args.marks.now (c.loop-left.left - 1) c.slot_at.new.marks l)
    (sym c.in_ok-push.ensures.items)
    (loop_steps c.args.snapshot.now.problem c.recall_rule.ensures.snapshot.problem
    c.args.snapshot.now.handled c.args.snapshot.now.state c.recall_rule.ensures.snapshot.run
    c.args.marks.now c.loop-left.left c.loop-left.marks c.loop-left.stack.items
    c.loop-left.invariant c.slot_at.new.marks c.in_ok-slot.slot
    (omega (arith, c.loop-left-test.true)) c.in_ok-slot.ensures c.slot_at.auto.marks)

pub returns : goal.returns
returns c =
    loop_ends c.args.snapshot.now.problem c.recall_rule.ensures.snapshot.problem
    c.args.snapshot.now.handled c.args.snapshot.now.state c.recall_rule.ensures.snapshot.run
    c.args.marks.now c.loop-left.left c.loop-left.marks c.loop-left.stack.items
    c.loop-left.invariant (omega (arith, c.loop-left-test.false))
