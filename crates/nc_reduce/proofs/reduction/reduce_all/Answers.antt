use Rattle.nc_algebra.specs.Polynomials.{AreResidues, normal_form}
use Rattle.nc_index.specs.Chosen.{IsBelowSig}
use Rattle.nc_reduce.proofs.Turns.{IsReduced, IsTurned, ended, ended_residues, is_turned}
use Rattle.nc_theory.specs.Reductions.{Reduction}
use Rattle.std.proofs.Common.{ap, subst, subst₂, sym, ◌∙◌}
use Rattle.nc_reduce.proofs.reduction.reduce_all.Goals.{In_ok-term}
use Rattle.nc_reduce.proofs.reduction.reduce_all.Goals as goal

-- what the turn has done
turned : (c : In_ok-term) → IsTurned c.args.snapshot.now c.args.bound.now c.in_ok-rest.rest
    c.turns.kept.items c.turns.steps.items c.turns.rest c.take_turn.new.rest c.in_ok-term.field-0
turned c =
    is_turned c.args.snapshot.now c.prime_of-p.ensures.snapshot c.args.bound.now
    c.in_ok-rest.rest c.turns.kept.items c.turns.steps.items c.turns.rest c.turns.invariant
    c.take_turn.new.rest c.in_ok-term.field-0 c.in_ok-term.ensures.turn

pub turns-smaller-in-Continue-branch-4 : goal.turns-smaller-in-Continue-branch-4
turns-smaller-in-Continue-branch-4 c =
    (turned (goal.at.turns-smaller-in-Continue-branch-4 c).In_ok-term).falls

pub turns-preserved-in-Continue-branch-4 : goal.turns-preserved-in-Continue-branch-4
turns-preserved-in-Continue-branch-4 c =
    subst (λ k. IsReduced c.args.snapshot.now c.args.bound.now c.in_ok-rest.rest k
    c.turns.steps.items c.take_turn.new.rest) (sym c.in_ok-push-in-Kept.ensures.items)
    ((turned (goal.at.turns-preserved-in-Continue-branch-4 c).In_ok-term).keeps c.in-Kept.term
    c.in-Kept.is)

pub turns-smaller : goal.turns-smaller
turns-smaller c = (turned (goal.at.turns-smaller c).In_ok-term).falls

pub turns-preserved : goal.turns-preserved
turns-preserved c =
    subst (λ k. IsReduced c.args.snapshot.now c.args.bound.now c.in_ok-rest.rest
    c.turns.kept.items k c.take_turn.new.rest) (sym c.in_ok-push-in-Subtracted.ensures.items)
    ((turned (goal.at.turns-preserved c).In_ok-term).subtracts c.in-Subtracted.step
    c.in-Subtracted.is)

pub of_terms-poly-requires : goal.of_terms-poly-requires
of_terms-poly-requires c =
    subst (λ p. AreResidues p c.turns.kept.items) (sym c.prime_of-p.ensures.prime)
    (ended_residues c.args.snapshot.now c.prime_of-p.ensures.snapshot c.args.bound.now
    c.in_ok-rest.rest c.turns.kept.items c.turns.steps.items c.turns.rest c.turns.invariant
    (c.is_zero.ensures.0 c.turns-test.false))

pub returns : goal.returns
returns c =
    subst₂ (λ f k. Reduction c.args.snapshot.now.problem.problem.setting
    c.args.snapshot.now.state.entries
    (IsBelowSig c.args.snapshot.now.problem.problem.setting c.args.bound.now) f
    c.of_terms-poly.result k) c.in_ok-rest.ensures (sym c.of-steps.ensures)
    (ended c.args.snapshot.now c.prime_of-p.ensures.snapshot c.args.bound.now
    c.in_ok-rest.rest c.turns.kept.items c.turns.steps.items c.turns.rest c.turns.invariant
    (c.is_zero.ensures.0 c.turns-test.false) c.of_terms-poly.result
    (c.of_terms-poly.ensures ∙ ap (λ p. normal_form p c.turns.kept.items)
    c.prime_of-p.ensures.prime))
