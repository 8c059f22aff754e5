use Rattle.nc_algebra.specs.Elements.{HasDegree}
use Rattle.nc_algebra.specs.Monomials.{Sig, monomial_of}
use Rattle.nc_algebra.specs.Problems.{NamedProblem, Problem}
use Rattle.nc_snapshot.proofs.Snapshots.{snapshot_prime}
use Rattle.nc_overlap.proofs.Leads.{some_entry}
use Rattle.nc_overlap.proofs.Lists.{all_left, ascending_left, same_left}
use Rattle.nc_overlap.proofs.New.{found_degrees, found_exact}
use Rattle.nc_overlap.specs.Overlaps.{AddsMeetings, IsLedBy}
use Rattle.nc_snapshot.specs.declared.lead.Lead.{Lead}
use Rattle.std.proofs.Common.{List, ap, map, subst, sym, ◌∙◌, ◌≡◌}
use Rattle.std.specs.Arc.{arc_value}
use Rattle.nc_overlap.proofs.found.signatures.Goals as goal

pub returns-clause-ascending : goal.returns-clause-ascending
returns-clause-ascending c =
    ascending_left arc_value c.add_entries.new.found.items c.sort_unstable.new.self.items
    c.dedup.new.self.items c.sort_unstable.ensures.permutation c.dedup.ensures.filtered
    c.sort_unstable.ensures.sorted

pub returns-clause-degrees : goal.returns-clause-degrees
returns-clause-degrees c =
    let P : Problem = c.args.snapshot.now.problem.problem in
    let l : Lead = record { word = c.args.lead; sig = c.deref.result } in
    let x : List Sig = map arc_value c.add_pair.new.found.items in
    let y : List Sig = map arc_value c.add_entries.new.found.items in
    let is : c.deref-2.result.now ≡ c.args.snapshot.now.problem =
    c.deref-2.ensures ∙ c.problem.ensures.problem in
    let some =
    some_entry P.setting.prime (snapshot_prime c.args.snapshot.now
    c.problem.ensures.snapshot).above_one c.args.lead.now
    (monomial_of c.deref.result.now) in
    let led : IsLedBy P.setting l some.0 = record { lead = some.1; signed = some.2 } in
    let itself : AddsMeetings P l l (map arc_value c.new-found.result.items) x =
    subst (λ (N : NamedProblem). AddsMeetings N.problem l l
    (map arc_value c.new-found.result.items) x) is c.in_ok-add_pair.ensures in
    all_left arc_value c.add_entries.new.found.items c.sort_unstable.new.self.items
    c.dedup.new.self.items c.sort_unstable.ensures.permutation c.dedup.ensures.filtered
    (HasDegree P.setting)
    (found_degrees P c.args.snapshot.now.state.entries some.0
    (map arc_value c.new-found.result.items) x y
    (ap (map arc_value) c.new-found.ensures.items) (itself some.0 some.0 led led)
    (c.in_ok-add_entries.ensures some.0 led))

pub returns-clause-exact : goal.returns-clause-exact
returns-clause-exact c new signed lead ρ =
    let P : Problem = c.args.snapshot.now.problem.problem in
    let l : Lead = record { word = c.args.lead; sig = c.deref.result } in
    let x : List Sig = map arc_value c.add_pair.new.found.items in
    let y : List Sig = map arc_value c.add_entries.new.found.items in
    let is : c.deref-2.result.now ≡ c.args.snapshot.now.problem =
    c.deref-2.ensures ∙ c.problem.ensures.problem in
    let led : IsLedBy P.setting l new =
    record {
      lead = lead;
      signed = signed ∙ ap monomial_of (sym c.deref.ensures);
    } in
    let itself : AddsMeetings P l l (map arc_value c.new-found.result.items) x =
    subst (λ (N : NamedProblem). AddsMeetings N.problem l l
    (map arc_value c.new-found.result.items) x) is c.in_ok-add_pair.ensures in
    let left =
    same_left arc_value c.add_entries.new.found.items c.sort_unstable.new.self.items
    c.dedup.new.self.items c.sort_unstable.ensures.permutation c.dedup.ensures.filtered ρ in
    let exact =
    found_exact P c.args.snapshot.now.state.entries new (map arc_value c.new-found.result.items)
    x y (ap (map arc_value) c.new-found.ensures.items) (itself new new led led)
    (c.in_ok-add_entries.ensures new led) ρ in
    (λ k. exact.0 (left.0 k), λ w. left.1 (exact.1 w))
