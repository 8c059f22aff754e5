use Rattle.nc_algebra.specs.Monomials.{Sig as Value}
use Rattle.std.specs.Arc.{arc_value}
use Rattle.std.proofs.Common.{subst, IfSome, List, ◌∷◌, ◌≡◌}
use Rattle.nc_queue.proofs.waiting.Waiting.least.Goals as goal
use Rattle.nc_queue.proofs.Mapped.{first_map}

pub returns-clause-least : goal.returns-clause-least
returns-clause-least c =
    subst (λ l. IfSome c.first.result (λ s. (x : List Value) × (l ≡ arc_value s.now ∷ x)))
    c.self.view_is (first_map arc_value c.self.inside.kept.keys c.first.result
    c.first.ensures.first)
