use Rattle.nc_criteria.proofs.Sides.{before_found, before_further, place_within, none_before}
use Rattle.nc_criteria.specs.Leads.{words_before}
use Rattle.nc_words.specs.Places.{IsPlaceFrom}
use Rattle.std.proofs.Common.{Some, ap, drop, false, length, refl, sym, true, ◌∙◌, ◌≡◌}
use Rattle.std.proofs.lemmas.Bool.{false≢true}
use Rattle.std.specs.Ordering.{is_lt}
use Rattle.nc_criteria.proofs.trivial.has_place_before.Goals as goal

pub returns-then-is_lt : goal.returns-then-is_lt
returns-then-is_lt c =
    let less : is_lt (words_before c.args.own.now c.args.other.now
    (drop (length c.args.other.now.word.now) (drop c.in-Some.at c.args.before.now))) ≡ true =
    ap is_lt (sym (c.compare_before.ensures ∙ ap (words_before c.args.own.now c.args.other.now)
    (c.rest_behind-between.ensures
    ∙ ap (λ l. drop (length l) (drop c.in-Some.at c.args.before.now))
    c.letters-in-Some.ensures.letters))) ∙ (sym c.is_lt.ensures ∙ c.if-is_lt.true) in (
      λ t. before_found c.args.own.now c.args.other.now c.args.before.now c.loop-at.from
          c.in-Some.at
          c.requires.heads (rw (← c.letters.ensures.letters) c.in-Some.ensures) less,
      λ b. refl,
    )

pub loop-at-preserved : goal.loop-at-preserved
loop-at-preserved c =
    let place : IsPlaceFrom c.args.other.now.word.now c.args.before.now c.loop-at.from
    (Some c.in-Some.at) = rw (← c.letters.ensures.letters) c.in-Some.ensures in
    let not : is_lt (words_before c.args.own.now c.args.other.now
    (drop (length c.args.other.now.word.now) (drop c.in-Some.at c.args.before.now))) ≡ false =
    ap is_lt (sym (c.compare_before.ensures ∙ ap (words_before c.args.own.now c.args.other.now)
    (c.rest_behind-between.ensures
    ∙ ap (λ l. drop (length l) (drop c.in-Some.at c.args.before.now))
    c.letters-in-Some.ensures.letters))) ∙ (sym c.is_lt.ensures ∙ c.if-is_lt.false) in (
      place_within c.args.other.now.word.now c.args.before.now c.loop-at.from c.in-Some.at place,
      before_further c.args.own.now c.args.other.now c.args.before.now c.loop-at.from c.in-Some.at
          c.requires.heads c.loop-at.invariant.1 place (λ t. false≢true (sym not ∙ t)),
    )

pub returns : goal.returns
returns c = (
  λ t. absurd (false≢true t),
  λ b. absurd
      (none_before c.args.own.now c.args.other.now c.args.before.now c.loop-at.from
      c.loop-at.invariant.1 (rw (← c.letters.ensures.letters) c.in_default.ensures) b),
)
