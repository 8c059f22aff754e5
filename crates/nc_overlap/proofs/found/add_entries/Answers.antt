use Rattle.nc_algebra.specs.Monomials.{Sig}
use Rattle.nc_algebra.specs.Problems.{NamedProblem, Problem}
use Rattle.nc_overlap.proofs.Additions.{adds_entries, adds_entry, adds_step}
use Rattle.nc_overlap.proofs.Leads.{led}
use Rattle.nc_overlap.specs.Overlaps.{AddsMeetings, IsLedBy}
use Rattle.nc_theory.proofs.Indexed.{OfEntry}
use Rattle.nc_theory.specs.Meetings.{MeetSomewhere}
use Rattle.nc_theory.specs.States.{Entry}
use Rattle.std.proofs.Common.{List, arith, get_or, map, subst, ℕ, ◌∙◌, ◌≡◌, ◌⊎◌}
use Rattle.std.specs.Arc.{arc_value}
use Rattle.nc_overlap.proofs.found.add_entries.Goals as goal

pub loop-index-preserved : goal.loop-index-preserved
loop-index-preserved c new i =
    let P : Problem = c.args.snapshot.now.problem.problem in
    let entries : List Entry = c.args.snapshot.now.state.entries in
    let k : ℕ = c.loop-index.index in
    let initial : List Sig = map arc_value c.args.found.now.items in
    let x : List Sig = map arc_value c.loop-index.found.items in
    let y : List Sig = map arc_value c.add_pair.new.found.items in
    let z : List Sig = map arc_value c.add_pair-in-loop-index.new.found.items in
    let is : c.deref-problem.result.now ≡ c.args.snapshot.now.problem =
    c.deref-problem.ensures ∙ c.problem.ensures.problem in
    let is_led : IsLedBy P.setting c.lead-entry.result (get_or entries k new) =
    subst (λ (j : ℕ). IsLedBy P.setting c.lead-entry.result (get_or entries j new))
    (omega arith) (led P.setting entries _ c.lead-entry.result c.lead-entry.ensures new) in
    let first : AddsMeetings P c.lead-entry.result c.args.new.now x y =
    subst (λ (N : NamedProblem). AddsMeetings N.problem c.lead-entry.result c.args.new.now x
    y) is c.in_ok-add_pair.ensures in
    let second : AddsMeetings P c.args.new.now c.lead-entry.result y z =
    subst (λ (N : NamedProblem). AddsMeetings N.problem c.args.new.now c.lead-entry.result y
    z) is c.in_ok-add_pair-2.ensures in
    adds_step P (OfEntry entries (λ e ρ. MeetSomewhere P.setting e new ρ
    ⊎ MeetSomewhere P.setting new e ρ)) k initial x z (c.loop-index.invariant new i)
    (adds_entry P entries new k x y z (omega arith) (first (get_or entries k new) new is_led i)
    (second new (get_or entries k new) i is_led))

pub returns : goal.returns
returns c new i =
    let P : Problem = c.args.snapshot.now.problem.problem in
    adds_entries P c.args.snapshot.now.state.entries new c.loop-index.index
    (map arc_value c.args.found.now.items) (map arc_value c.loop-index.found.items)
    (omega arith) (c.loop-index.invariant new i)
