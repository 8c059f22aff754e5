use Rattle.nc_criteria.proofs.Sides.{before_anywhere, before_nowhere}
use Rattle.std.proofs.Common.{sym, ◌∙◌}
use Rattle.std.proofs.lemmas.Bool.{false≢true}
use Rattle.nc_criteria.proofs.trivial.is_before.Goals as goal

pub returns-in-Less : goal.returns-in-Less
returns-in-Less c =
    rw (c.is_some.ensures) (before_anywhere c.args.own.now c.args.other.now c.args.before.now
    (sym c.requires ∙ c.in-Less.is) c.place_of.result
    (rw (← c.letters.ensures.letters) c.place_of.ensures))

pub returns-in-Greater : goal.returns-in-Greater
returns-in-Greater c = (
  λ t. absurd (false≢true t),
  λ b. absurd
      (before_nowhere c.args.own.now c.args.other.now c.args.before.now
      (sym c.requires ∙ c.in-Greater.is) b),
)
