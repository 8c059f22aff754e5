use Rattle.nc_desk.proofs.Endings.{budget_bases, budget_end, complete_bases, complete_end, one_waits}
use Rattle.nc_desk.proofs.Steps.{least_degree}
use Rattle.nc_desk.specs.Desks.{DeskValue, MayStep}
use Rattle.nc_desk.specs.Ends.{Finished}
use Rattle.nc_theory.specs.EndBases.{AreCanonical, HasBasesAt}
use Rattle.nc_snapshot.proofs.Snapshots.{snapshot_canonical}
use Rattle.std.proofs.Common.{refl, subst, sym}
use Rattle.nc_desk.proofs.desk.Desk.finish.Goals as goal

pub of-requires : goal.of-requires
of-requires c = record {
  listed = c.self.invariant.listed;
  ends = budget_end c.self.inside.snapshot c.recall_rule.ensures.snapshot c.self.inside.waiting
      c.self.invariant.left c.take_least.ensures.ascending c.in-Some.sig.value c.take_least.new.self
      c.in-Some.ensures.taken
      (λ l. c.requires.ended (subst (λ (d : DeskValue). MayStep d.snapshot) c.self.view_is (
        one_waits c.self.inside.snapshot c.recall_rule.ensures.snapshot c.self.inside.waiting
            c.self.invariant.left c.take_least.ensures.ascending c.in-Some.sig.value
            c.take_least.new.self c.in-Some.ensures.taken,
        l,
      )));
  degree =
      least_degree c.self.inside.snapshot c.recall_rule.ensures.snapshot c.self.inside.waiting
      c.self.invariant.left c.take_least.ensures.ascending c.in-Some.sig.value c.take_least.new.self
      c.in-Some.ensures.taken;
}

pub of-requires-in-None : goal.of-requires-in-None
of-requires-in-None c = record {
  listed = c.self.invariant.listed;
  ends = complete_end c.self.inside.snapshot c.recall_rule.ensures.snapshot c.self.inside.waiting
      c.self.invariant.left (c.in-None.ensures.none.0 refl);
  degree = tt;
}

pub returns-in-Some-clause-bases : goal.returns-in-Some-clause-bases
returns-in-Some-clause-bases c =
    subst (λ (f : Finished). HasBasesAt f.snapshot.problem.problem f.snapshot.state f.ending)
    (sym c.of.ensures)
    (budget_bases c.self.inside.snapshot c.recall_rule.ensures.snapshot c.self.inside.waiting
    c.self.invariant.left c.take_least.ensures.ascending c.in-Some.sig.value
    c.take_least.new.self c.in-Some.ensures.taken
    (λ l. c.requires.ended (subst (λ (d : DeskValue). MayStep d.snapshot) c.self.view_is (
      one_waits c.self.inside.snapshot c.recall_rule.ensures.snapshot c.self.inside.waiting
          c.self.invariant.left c.take_least.ensures.ascending c.in-Some.sig.value
          c.take_least.new.self c.in-Some.ensures.taken,
      l,
    ))))

pub returns-in-Some-clause-canonical : goal.returns-in-Some-clause-canonical
returns-in-Some-clause-canonical c =
    subst (λ (f : Finished). AreCanonical f.snapshot.problem.problem.setting f.snapshot.state)
    (sym c.of.ensures) (snapshot_canonical c.self.inside.snapshot c.recall_rule.ensures.snapshot)

pub returns-clause-bases : goal.returns-clause-bases
returns-clause-bases c =
    subst (λ (f : Finished). HasBasesAt f.snapshot.problem.problem f.snapshot.state f.ending)
    (sym c.of-in-None.ensures)
    (complete_bases c.self.inside.snapshot c.recall_rule.ensures.snapshot c.self.inside.waiting
    c.self.invariant.left (c.in-None.ensures.none.0 refl))

pub returns-clause-canonical : goal.returns-clause-canonical
returns-clause-canonical c =
    subst (λ (f : Finished). AreCanonical f.snapshot.problem.problem.setting f.snapshot.state)
    (sym c.of-in-None.ensures) (snapshot_canonical c.self.inside.snapshot
    c.recall_rule.ensures.snapshot)
