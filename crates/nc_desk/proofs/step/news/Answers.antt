use Rattle.nc_algebra.specs.Monomials.{Sig, monomial_of}
use Rattle.nc_algebra.specs.Problems.{IsWithin}
use Rattle.nc_desk.proofs.News.{entry_news, new_within, no_news}
use Rattle.nc_index.specs.Chosen.{lead_of}
use Rattle.nc_overlap.specs.Overlaps.{AreNewSignatures}
use Rattle.nc_snapshot.proofs.Limits.{snapshot_counts}
use Rattle.nc_snapshot.specs.Snapshots.{Snapshot, entry_of}
use Rattle.std.specs.Arc.{arc_value}
use Rattle.std.proofs.Common.{Some, [], ap, arith, length, map, subst, sym, ◌++◌, ◌-◌, ◌<◌, ◌∙◌, ◌∷◌, ◌≡◌}
use Rattle.std.proofs.lemmas.List.{length-map}
use Rattle.std.specs.List.{slice_get}
use Rattle.nc_desk.proofs.step.news.Goals.{After-entry-new}
use Rattle.nc_desk.proofs.step.news.Goals as goal

-- what is known of the last entry of the later snapshot
record IsNew (c : After-entry-new) : Type 0 where
  more : length c.args.snapshot.now.state.entries < length c.args.later.now.state.entries
  stands : slice_get c.args.later.now.state.entries
      (length c.args.later.now.state.entries - 1) ≡ Some (entry_of c.entry-new.result.now)

is_new : (c : After-entry-new) → IsNew c
is_new c = record {
  more = omega (
    arith,
    c.if-number-entries.false,
    c.entries-number.ensures.count,
    c.entries.ensures.count,
  );
  stands = subst (λ n. slice_get c.args.later.now.state.entries (n - 1)
      ≡ Some (entry_of c.entry-new.result.now)) c.entries-number.ensures.count
      c.entry-new.ensures.entry;
}

pub returns-then-number-entries : goal.returns-then-number-entries
returns-then-number-entries c =
    no_news c.args.snapshot.now c.args.later.now c.requires.step.problem c.in_ok-more.more
    (c.in_ok-more.ensures ∙ c.requires.leads) (omega (
      arith,
      c.if-number-entries.true,
      c.entries-number.ensures.count,
      c.entries.ensures.count,
    )) c.requires.step (map arc_value c.new.result.items)
    (ap (map arc_value) c.new.ensures.items)

pub add-requires : goal.add-requires
add-requires c =
    let s : Snapshot = c.args.snapshot.now in
    omega (
      arith,
      ap length (c.in_ok-more.ensures ∙ c.requires.leads),
      length-map s.state.entries (lead_of s.problem.problem.setting),
      snapshot_counts s c.recall_rule.ensures.snapshot,
    )

pub signatures-requires-clause-within : goal.signatures-requires-clause-within
signatures-requires-clause-within c =
    let new = is_new (goal.at.signatures-requires-clause-within c).After-entry-new in
    subst (λ (σ : Sig). IsWithin c.args.snapshot.now.problem.problem (monomial_of σ))
    (sym c.sig-sig.ensures)
    (new_within c.args.snapshot.now c.args.later.now c.requires.step.problem c.in_ok-more.more
    (c.in_ok-more.ensures ∙ c.requires.leads) c.recall_rule-2.ensures.snapshot new.more
    c.entry-new.result.now new.stands)

pub returns : goal.returns
returns c =
    let s : Snapshot = c.args.snapshot.now in
    let new = is_new (goal.at.returns c).After-entry-new in
    entry_news s c.args.later.now c.requires.step.problem c.in_ok-more.more
    (c.in_ok-more.ensures ∙ c.requires.leads) c.recall_rule-2.ensures.snapshot new.more
    c.entry-new.result.now new.stands c.lead-word.result.now c.lead-word.ensures
    c.entry-new.ensures.degree c.add.new.self
    (c.in_ok-add.ensures.added ∙ ap (λ (σ : Sig). c.in_ok-more.more ++ record {
      word = c.lead-word.result.now;
      signature = σ;
    } ∷ []) c.sig-sig.ensures)
    (map arc_value c.in_ok-found.found.items) c.in_ok-found.ensures.degrees
    (subst (λ (σ : Sig). AreNewSignatures s.problem.problem s.state.entries
    c.lead-word.result.now (monomial_of σ) (map arc_value c.in_ok-found.found.items))
    c.sig-sig.ensures c.in_ok-found.ensures.exact) c.requires.step
