-- What a sink holds after several calls.
-- `Adds-trans` puts two growths together; a loop that writes piece after piece uses it at each
-- turn.
use Rattle.std.proofs.Common.{ℕ, List, ◌++◌, ap, ◌∙◌, Some, None}
use Rattle.std.specs.declared.option.Option.{Option}
use Rattle.std.proofs.lemmas.List.{append_assoc}
use Rattle.nc_io.specs.Adds.{Adds}

pub Adds-trans : (a b c : Option (List ℕ)) (bs cs : List ℕ) → Adds a b bs → Adds b c cs
    → Adds a c (bs ++ cs)
Adds-trans a b None bs cs g h = tt
Adds-trans a None (Some zs) bs cs g h = absurd h
Adds-trans None (Some ys) (Some zs) bs cs g h = absurd g
Adds-trans (Some xs) (Some ys) (Some zs) bs cs g h =
    h ∙ ap (λ (l : List ℕ). l ++ cs) g ∙ append_assoc xs bs cs
