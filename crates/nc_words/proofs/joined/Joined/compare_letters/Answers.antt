use Rattle.nc_algebra.specs.Words.{Word, compare_letters}
use Rattle.nc_words.proofs.Comparisons.{compare_ends, compare_fronts, order_decides, order_passes}
use Rattle.nc_words.specs.Products.{joined_word}
use Rattle.std.proofs.Common.{Ordering, ap₂, arith, drop, inl, inr, length, sym, ◌++◌, ◌∙◌}
use Rattle.std.proofs.lemmas.Bool.{eqb-true}
use Rattle.std.specs.Cmp.Lexicographic.{slice_cmp}
use Rattle.nc_words.proofs.joined.Joined.compare_letters.Goals.{then-loop-count-test+else-not-is_empty, else-loop-count-test}
use Rattle.nc_words.proofs.joined.Joined.compare_letters.Goals as goal

pub returns-then-is_ne : goal.returns-then-is_ne
returns-then-is_ne c =
    let a : Word = c.loop-count.a.first.now in
    let b : Word = c.loop-count.b.first.now in
    let left : Ordering =
    slice_cmp compare_letters (drop c.min-count.result (joined_word c.loop-count.a))
    (drop c.min-count.result (joined_word c.loop-count.b)) in
    sym (c.loop-count.invariant.same
    ∙ (compare_fronts c.min-count.result a (c.loop-count.a.second.now ++ c.loop-count.a.third.now) b
    (c.loop-count.b.second.now ++ c.loop-count.b.third.now) c.cmp-order.result (omega arith)
    (omega arith) c.cmp-order.ensures
    ∙ order_decides c.cmp-order.result left c.is_ne.result c.is_ne.ensures c.if-is_ne.true))

pub loop-count-preserved : goal.loop-count-preserved
loop-count-preserved c = record {
  same =
      let a : Word = c.loop-count.a.first.now in
      let b : Word = c.loop-count.b.first.now in
      let left : Ordering =
      slice_cmp compare_letters (drop c.min-count.result (joined_word c.loop-count.a))
      (drop c.min-count.result (joined_word c.loop-count.b)) in
      c.loop-count.invariant.same
      ∙ (compare_fronts c.min-count.result a (c.loop-count.a.second.now ++ c.loop-count.a.third.now)
      b (c.loop-count.b.second.now ++ c.loop-count.b.third.now) c.cmp-order.result
      (omega arith) (omega arith) c.cmp-order.ensures
      ∙ (order_passes c.cmp-order.result left c.is_ne.result c.is_ne.ensures c.if-is_ne.false
      ∙ sym (ap₂ (slice_cmp compare_letters) (c.moved_up-a-in-loop-count.ensures.same
      ∙ c.without.ensures) (c.moved_up-b-in-loop-count.ensures.same
      ∙ c.without-in-loop-count.ensures))));
  first = c.moved_up-a-in-loop-count.ensures.first;
  second = c.moved_up-b-in-loop-count.ensures.first;
}

pub returns : goal.returns
returns c =
    c.cmp.ensures
    ∙ (compare_ends c.loop-count.a.first.now (c.loop-count.a.second.now ++ c.loop-count.a.third.now)
    c.loop-count.b.first.now (c.loop-count.b.second.now ++ c.loop-count.b.third.now)
    c.loop-count.invariant.first c.loop-count.invariant.second
    (elim c.loop-count-test.branch [
      | then-loop-count-test+else-not-is_empty w ↦ inr
          (eqb-true (length c.loop-count.b.first.now) 0 (sym w.is_empty-in-loop-count.ensures
          ∙ w.if-not-is_empty.false))
      | else-loop-count-test w ↦ inl
          (eqb-true (length c.loop-count.a.first.now) 0
          (sym c.is_empty.ensures ∙ w.loop-count-test.false))
    ])
    ∙ sym c.loop-count.invariant.same)
