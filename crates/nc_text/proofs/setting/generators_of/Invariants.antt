use Rattle.nc_tokens.proofs.Repeated.{IsOnTheWay}
use Rattle.nc_tokens.specs.Lines.{lines_left}
use Rattle.nc_text.proofs.setting.generators_of.Given as goal
use Rattle.nc_text.specs.Settings.{generator_lines}
use Rattle.nc_tokens.specs.Unread.{left}

abbrev pub invariant-generators : goal.invariant-generators
invariant-generators l =
    IsOnTheWay (generator_lines l.prime l.alphabet) l.generators.items l.room (left l.text)
    (generator_lines l.prime l.alphabet 1000 (left l.fn.text))

abbrev pub decreases-generators : goal.decreases-generators
decreases-generators l = lines_left (left l.text)
