use Rattle.std.proofs.Common.{refl}
use Rattle.std.proofs.lemmas.Bool.{false≢true}
use Rattle.nc_index.proofs.Regular.{first_decides, no_place, none_decides}
use Rattle.nc_index.proofs.lead.Lead.first_below.Goals as goal

pub returns-in_err-place : goal.returns-in_err-place
returns-in_err-place c =
    rw c.from_residual.ensures (no_place c.args.self.now c.args.word.now c.args.bound.now
    (rw (← c.letters.ensures) c.in_err-place.ensures))

pub returns-then-is_regular : goal.returns-then-is_regular
returns-then-is_regular c =
    first_decides c.args.self.now c.args.word.now c.args.bound.now c.in_ok-place.place
    (rw (← c.letters.ensures) c.in_ok-place.ensures) (c.if-is_regular.ensures.0 refl)

pub returns-else-is_regular : goal.returns-else-is_regular
returns-else-is_regular c =
    none_decides c.args.self.now c.args.word.now c.args.bound.now c.in_ok-place.place
    (rw (← c.letters.ensures) c.in_ok-place.ensures)
    (λ r. false≢true (c.if-is_regular.ensures.1 r))
