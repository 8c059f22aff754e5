use Rattle.nc_algebra.specs.Polynomials.{AreResidues}
use Rattle.nc_reduce.proofs.Turns.{IsDivisorOf, IsTurning, hit_divides, hit_turn, hit_within, none_turn, step_few}
use Rattle.nc_reduce.proofs.turn.take_turn.Goals.{After-entry-divisor, In-Some, In-Some-first_regular}
use Rattle.std.proofs.Common.{subst, sym}
use Rattle.nc_reduce.proofs.turn.take_turn.Goals as goal

-- what is known where the turn begins
turning : (c : In-Some) → IsTurning c.args.snapshot.now c.args.leads.now c.args.rest.now
    (record { coefficient = c.in-Some.c.now; key = c.in-Some.word.now })
turning c = record {
  law = c.leads_law.ensures;
  is = c.prime_of-p.ensures.snapshot;
  listed = c.requires.leads;
  normal = c.requires.normal;
  others = c.in-Some.ensures.some.0;
  parts = c.in-Some.ensures.some.1;
}

-- what holds of the divisor that was found
divides : (c : After-entry-divisor) → IsTurning c.args.snapshot.now c.args.leads.now
    c.args.rest.now (record { coefficient = c.in-Some.c.now; key = c.in-Some.word.now })
    → IsDivisorOf c.prime_of-p.result
    (record { coefficient = c.in-Some.c.now; key = c.in-Some.word.now })
    c.in-Some-first_regular.hit c.entry-divisor.result.now.polynomial
divides c t =
    hit_divides c.args.snapshot.now c.args.leads.now c.args.rest.now _ t c.args.bound.now
    c.letters.result.now c.letters.ensures.letters c.in-Some-first_regular.hit
    c.in-Some-first_regular.ensures c.entry-divisor.result.now c.entry-divisor.ensures.entry
    c.prime_of-p.result c.prime_of-p.ensures.prime

pub returns-in_default-first_regular : goal.returns-in_default-first_regular
returns-in_default-first_regular c = record {
  turn = none_turn c.args.snapshot.now c.args.leads.now c.args.rest.now _
      (turning (goal.at.returns-in_default-first_regular c).In-Some) c.args.bound.now
      c.letters.result.now c.letters.ensures.letters c.in_default-first_regular.ensures
      c.take_lead.result c.take_lead.new.rest c.take_lead.ensures;
}

pub entry-divisor-requires-clause-within : goal.entry-divisor-requires-clause-within
entry-divisor-requires-clause-within c =
    hit_within c.args.snapshot.now c.args.leads.now c.args.rest.now _
    (turning (goal.at.entry-divisor-requires-clause-within c).In-Some) c.args.bound.now
    c.letters.result.now c.letters.ensures.letters c.in-Some-first_regular.hit
    c.in-Some-first_regular.ensures

pub step_at-requires : goal.step_at-requires
step_at-requires c =
    let d =
    divides (goal.at.step_at-requires c).After-entry-divisor
    (turning (goal.at.step_at-requires c).In-Some) in
    record { residue = d.residue; normal = d.normal; stands = d.stands }

pub subtract-requires-clause-other_residues : goal.subtract-requires-clause-other_residues
subtract-requires-clause-other_residues c =
    subst (AreResidues c.prime_of-p.result) (sym c.poly.ensures)
    (divides (goal.at.subtract-requires-clause-other_residues c).After-entry-divisor
    (turning (goal.at.subtract-requires-clause-other_residues c).In-Some)).normal.1

pub subtract-requires-clause-few : goal.subtract-requires-clause-few
subtract-requires-clause-few c =
    step_few c.args.snapshot.now c.args.leads.now c.args.rest.now _
    (turning (goal.at.subtract-requires-clause-few c).In-Some) c.args.bound.now
    c.letters.result.now c.letters.ensures.letters c.in-Some-first_regular.hit
    c.in-Some-first_regular.ensures c.entry-divisor.result.now c.entry-divisor.ensures.entry
    c.prime_of-p.result c.prime_of-p.ensures.prime c.in_ok-step.step c.in_ok-step.ensures
    c.poly.result.now c.poly.ensures c.requires.small

pub returns : goal.returns
returns c = record {
  turn = hit_turn c.args.snapshot.now c.args.leads.now c.args.rest.now _
      (turning (goal.at.returns c).In-Some) c.args.bound.now c.letters.result.now
      c.letters.ensures.letters c.in-Some-first_regular.hit c.in-Some-first_regular.ensures
      c.entry-divisor.result.now c.entry-divisor.ensures.entry c.prime_of-p.result
      c.prime_of-p.ensures.prime c.in_ok-step.step c.in_ok-step.ensures c.poly.result.now
      c.poly.ensures c.subtract.new.rest c.in_ok-subtract.ensures;
}
