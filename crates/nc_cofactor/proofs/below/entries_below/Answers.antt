use Rattle.nc_algebra.specs.Monomials.{monomial_of}
use Rattle.nc_cofactor.proofs.Halves.{lower_half, upper_half}
use Rattle.nc_cofactor.proofs.Lesser.{IsOtherFrom, lesser_by_numbers}
use Rattle.std.proofs.Common.{ap, arith, subst, ◌+◌, ◌-◌, ◌/◌, ◌∙◌, ◌≡◌}
use Rattle.std.specs.Ordering.{is_lt}
use Rattle.nc_cofactor.proofs.below.entries_below.Goals as goal

pub halves-preserved-then-is_lt : goal.halves-preserved-then-is_lt
halves-preserved-then-is_lt c = record {
  order = omega arith;
  few = c.halves.invariant.few;
  lesser =
      lower_half c.args.snapshot.now c.recall_rule.ensures.snapshot c.args.sig.now c.requires
      (c.halves.low + (c.halves.high - c.halves.low) / 2) c.entry.result.now c.entry.ensures.entry
      c.entry.ensures.degree c.deref-entry.result.now (c.deref-entry.ensures ∙ c.sig.ensures)
      c.is_lt.result (c.is_lt.ensures ∙ ap is_lt c.cmp.ensures) c.if-is_lt.true;
  others = c.halves.invariant.others;
}

pub halves-preserved : goal.halves-preserved
halves-preserved c = record {
  order = omega arith;
  few = omega arith;
  lesser = c.halves.invariant.lesser;
  others =
      upper_half c.args.snapshot.now c.recall_rule.ensures.snapshot c.args.sig.now c.requires
      (c.halves.low + (c.halves.high - c.halves.low) / 2) c.entry.result.now c.entry.ensures.entry
      c.entry.ensures.degree c.deref-entry.result.now (c.deref-entry.ensures ∙ c.sig.ensures)
      c.is_lt.result (c.is_lt.ensures ∙ ap is_lt c.cmp.ensures) c.if-is_lt.false;
}

pub returns : goal.returns
returns c =
    let same : c.halves.high ≡ c.halves.low = omega arith in
    lesser_by_numbers c.args.snapshot.now.problem.problem.setting c.args.snapshot.now.state.entries
    (monomial_of c.args.sig.now) c.halves.low (omega arith) c.halves.invariant.lesser
    (subst (IsOtherFrom c.args.snapshot.now.problem.problem.setting
    c.args.snapshot.now.state.entries (monomial_of c.args.sig.now)) same
    c.halves.invariant.others)
