use Rattle.nc_snapshot.proofs.Limits.{found_counts}
use Rattle.nc_snapshot.proofs.Snapshots.{snapshot_ascends, snapshot_canonical}
use Rattle.nc_snapshot.proofs.Steps.{added_degrees, added_stands, added_state, handled_some}
use Rattle.nc_snapshot.proofs.snapshot.Snapshot.append.Goals as goal
use Rattle.nc_snapshot.specs.Outcomes.{outcome_of}
use Rattle.nc_snapshot.specs.Snapshots.{IsSnapshot, state_of}
use Rattle.nc_algebra.specs.Monomials.{monomial_of}
use Rattle.std.proofs.Common.{arith, refl, subst, ◌+◌}

pub add-requires-clause-covered : goal.add-requires-clause-covered
add-requires-clause-covered c =
    omega (arith, found_counts _ c.self.inside.found refl c.self.invariant.0)

pub add-requires-clause-settled : goal.add-requires-clause-settled
add-requires-clause-settled c =
    omega (arith, found_counts _ c.self.inside.found refl c.self.invariant.0)

pub add-requires-clause-some : goal.add-requires-clause-some
add-requires-clause-some c =
    handled_some c.args.self.now.problem.problem.setting c.args.self.now.state
    (monomial_of c.args.sig.value) (outcome_of c.args.outcome) c.requires.outcome

pub invariant_of-self-2 : goal.invariant_of-self-2
invariant_of-self-2 c = (
  added_stands c.self.inside.problem.value c.self.inside.handled c.self.inside.found c.add.new.self
      c.args.sig.value c.args.outcome c.args.self.now c.self.view_is c.self.invariant.0
      c.self.invariant.1 c.requires.degree c.requires.next c.requires.steps c.requires.outcome
      c.in_ok-add.ensures.added,
  added_degrees c.self.inside.problem.value c.self.inside.handled c.self.inside.found c.add.new.self
      c.args.sig.value c.args.outcome c.args.self.now c.self.view_is c.self.invariant.0
      c.self.invariant.1 c.requires.degree c.requires.next c.requires.steps c.requires.outcome
      c.in_ok-add.ensures.added,
)

pub returns-clause-state : goal.returns-clause-state
returns-clause-state c =
    added_state c.self.inside.problem.value c.self.inside.handled c.self.inside.found c.add.new.self
    c.args.sig.value c.args.outcome c.args.self.now c.self.view_is c.self.invariant.0
    c.self.invariant.1 c.requires.degree c.requires.next c.requires.steps c.requires.outcome
    c.in_ok-add.ensures.added

pub returns-clause-canonical : goal.returns-clause-canonical
returns-clause-canonical c =
    snapshot_canonical (record {
      problem = c.self.inside.problem.value;
      handled = c.self.inside.handled + 1;
      state = state_of c.add.new.self;
    })
    (added_stands c.self.inside.problem.value c.self.inside.handled c.self.inside.found
    c.add.new.self c.args.sig.value c.args.outcome c.args.self.now c.self.view_is
    c.self.invariant.0 c.self.invariant.1 c.requires.degree c.requires.next c.requires.steps
    c.requires.outcome c.in_ok-add.ensures.added)

pub returns-clause-ascent : goal.returns-clause-ascent
returns-clause-ascent c =
    snapshot_ascends c.args.self.now (subst IsSnapshot c.self.view_is c.self.invariant.0)
    (monomial_of c.args.sig.value) (outcome_of c.args.outcome) c.requires.next c.requires.outcome
