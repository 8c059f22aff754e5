-- A list with one element more.
use Rattle.std.proofs.Common.{Contains, List, [], inl, inr, subst, ◌++◌, ◌∷◌}
use Rattle.std.proofs.lemmas.List.Elements.{Contains-push_cases}

-- what holds of each element and of the new one holds of all
pub each_pushed : {X : Type 0} (Good : X → Type 0) (xs : List X) (new : X)
    → ((x : X) → Contains xs x → Good x) → Good new → (x : X) → Contains (xs ++ (new ∷ [])) x
    → Good x
each_pushed Good xs new old now x c =
    elim (Contains-push_cases xs new x c) [ inl k ↦ old x k | inr e ↦ subst Good e now ]
