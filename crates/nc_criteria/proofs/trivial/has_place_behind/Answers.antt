use Rattle.nc_criteria.proofs.Sides.{behind_found, behind_further, place_within, none_behind}
use Rattle.nc_criteria.specs.Leads.{words_behind}
use Rattle.nc_words.specs.Places.{IsPlaceFrom}
use Rattle.std.proofs.Common.{Some, ap, false, refl, sym, take, true, ◌∙◌, ◌≡◌}
use Rattle.std.proofs.lemmas.Bool.{false≢true}
use Rattle.std.specs.Ordering.{is_lt}
use Rattle.nc_criteria.proofs.trivial.has_place_behind.Goals as goal

pub returns-then-is_lt : goal.returns-then-is_lt
returns-then-is_lt c =
    let less : is_lt (words_behind c.args.own.now c.args.other.now
    (take c.in-Some.at c.args.behind.now)) ≡ true =
    ap is_lt (sym (c.compare_behind.ensures)) ∙ (sym c.is_lt.ensures ∙ c.if-is_lt.true) in (
      λ t. behind_found c.args.own.now c.args.other.now c.args.behind.now c.loop-at.from
          c.in-Some.at
          c.requires.heads (rw (← c.letters.ensures.letters) c.in-Some.ensures) less,
      λ b. refl,
    )

pub loop-at-preserved : goal.loop-at-preserved
loop-at-preserved c =
    let place : IsPlaceFrom c.args.other.now.word.now c.args.behind.now c.loop-at.from
    (Some c.in-Some.at) = rw (← c.letters.ensures.letters) c.in-Some.ensures in
    let not : is_lt (words_behind c.args.own.now c.args.other.now
    (take c.in-Some.at c.args.behind.now)) ≡ false =
    ap is_lt (sym (c.compare_behind.ensures)) ∙ (sym c.is_lt.ensures ∙ c.if-is_lt.false) in (
      place_within c.args.other.now.word.now c.args.behind.now c.loop-at.from c.in-Some.at place,
      behind_further c.args.own.now c.args.other.now c.args.behind.now c.loop-at.from c.in-Some.at
          c.requires.heads c.loop-at.invariant.1 place (λ t. false≢true (sym not ∙ t)),
    )

pub returns : goal.returns
returns c = (
  λ t. absurd (false≢true t),
  λ b. absurd
      (none_behind c.args.own.now c.args.other.now c.args.behind.now c.loop-at.from
      c.loop-at.invariant.1 (rw (← c.letters.ensures.letters) c.in_default.ensures) b),
)
