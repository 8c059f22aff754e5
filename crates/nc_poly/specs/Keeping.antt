-- What a sum in a tree keeps beside each key, and the terms that its entries stand for.
--
-- A sum over ordered keys stands in a tree, the least key first. A slot has the coefficient as it
-- is, and the coefficient from before the pass that changed it last. So a pass that runs out of
-- memory halfway can be undone without memory: `before_at` reads the sum without the changes of
-- that pass. `now_of` reads the sum as it is. An entry may have the coefficient 0; it stands for no
-- term.
use Rattle.nc_algebra.specs.Sums.{Term}
use Rattle.nc_poly.specs.declared.sum.Slot.{Slot}
use Rattle.std.specs.Prelude.{List, [], cond, nat_eq, ℕ, ◌%◌, ◌+◌, ◌++◌, ◌<◌, ◌∷◌, ◌≡◌}

-- a coefficient 0, new in this pass
abbrev pub fresh : ℕ → Slot
fresh pass = record { now = 0; before = 0; pass = pass }

-- the coefficient at the beginning of the pass
abbrev pub before_at : ℕ → Slot → ℕ
before_at pass s = cond (nat_eq s.pass pass) s.before s.now

-- c added in this pass
abbrev pub added : ℕ → ℕ → ℕ → Slot → Slot
added pass p c s = record { now = (s.now + c) % p; before = before_at pass s; pass = pass }

-- the term, or nothing where its coefficient is 0
abbrev pub shown : {K : Type 0} → ℕ → K → List (Term K)
shown c k = cond (nat_eq c 0) [] (record { coefficient = c; key = k } ∷ [])

-- the terms of the entries, the last one first, with the coefficients that φ reads and without
-- those that are 0
abbrev pub terms_by : {K S : Type 0} → (S → ℕ) → List (K × S) → List (Term K)
terms_by φ [] = []
terms_by φ (e ∷ es) = terms_by φ es ++ shown (φ e.1) e.0

-- the coefficient as it is
abbrev pub now_of : Slot → ℕ
now_of s = s.now

-- the last entry, if there is one, has a coefficient
abbrev pub IsTopped : {K : Type 0} → List (K × Slot) → Type 0
IsTopped {K} es = (front : List (K × Slot)) (e : K × Slot) → es ≡ front ++ e ∷ [] → 0 < e.1.now

-- the last entry has the coefficient 0
abbrev pub EndsInZero : {K : Type 0} → List (K × Slot) → Type 0
EndsInZero {K} es =
    (front : List (K × Slot)) × (e : K × Slot) × (es ≡ front ++ e ∷ []) × (e.1.now ≡ 0)
