-- Membership in a list, and lists without repetition.
--
-- `Among` is defined by recursion on the list, while the library's `Contains` gives the place of
-- the item. Statements use `Contains`; `Among` is for proofs by induction, and for `IsDistinct`.
use Rattle.std.specs.Prelude.{List, [], ◌∷◌, ◌≡◌, ◌⊎◌}

-- x is an element: by recursion, for what is proved by recursion
abbrev pub Among : {X : Type 0} → X → List X → Type 0
Among x [] = ⊥
Among x (y ∷ ys) = (x ≡ y) ⊎ Among x ys

-- no element stands twice
abbrev pub IsDistinct : {X : Type 0} → List X → Type 0
IsDistinct [] = Unit {0}
IsDistinct (x ∷ xs) = ¬ Among x xs × IsDistinct xs
