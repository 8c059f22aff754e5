-- The line of an entry: its place among the needed ones, which ascend.
-- The place is the number of those that are not greater (`line_at`). A number that is less than one
-- of them stands before it (`stands_before`).
use Rattle.nc_algebra.specs.Certificates.{item}
use Rattle.nc_member.specs.Lines.{line_of}
use Rattle.nc_theory.proofs.Fronts.{front_or_later}
use Rattle.std.proofs.Common.{Bool, Contains, List, [], ap, arith, cond, false, true, get_or, inl, inr, length, nat_le, refl, suc, zero, ℕ, ◌+◌, ◌++◌, ◌<◌, ◌∷◌, ◌≡◌, ◌≤◌, ◌⊎◌}
use Rattle.std.proofs.lemmas.Bool.{le-leb, lt-leb}
use Rattle.std.proofs.lemmas.List.{get_or_append_left, get_or_at}
use Rattle.std.proofs.lemmas.List.Elements.{All-from_recursion}
use Rattle.std.proofs.lemmas.List.Kept.{AllPairs-from_increasing}
use Rattle.std.proofs.lemmas.List.Sums.{sum_by-cons}
use Rattle.std.specs.List.{AllByRecursion}
use Rattle.std.specs.List.Sorted.{IsNonDecreasingBy, IsPartitionPoint, IsStrictlyIncreasing}

-- ---- one element more

-- the items before it stay
pub item_before : {X : Type 0} (none : X) (xs : List X) (x : X) (k : ℕ) → k ≤ length xs
    → item none (xs ++ x ∷ []) k ≡ item none xs k
item_before none xs x zero h = refl
item_before none xs x (suc k) h = get_or_append_left xs (x ∷ []) none k (omega (arith, h))

pub item_last : {X : Type 0} (none : X) (xs : List X) (x : X) (k : ℕ) → k ≡ length xs + 1
    → item none (xs ++ x ∷ []) k ≡ x
item_last none xs x zero h = absurd (omega (arith, h))
item_last none xs x (suc k) h = get_or_at xs x [] none k (omega (arith, h))

-- ---- ascending numbers

-- each number is less than those behind it
abbrev pub Ascends : List ℕ → Type 0
Ascends [] = Unit {0}
Ascends (x ∷ xs) = AllByRecursion (λ y. x < y) xs × Ascends xs

all_by_place : (P : ℕ → Type 0) (xs : List ℕ) → ((i : ℕ) → i < length xs → P (get_or xs i 0))
    → AllByRecursion P xs
all_by_place P [] h = tt
all_by_place P (x ∷ xs) h =
    (h 0 (omega arith), all_by_place P xs (λ i l. h (suc i) (omega (arith, l))))

from_places : (xs : List ℕ) → ((i j : ℕ) → i < j → j < length xs → get_or xs i 0 < get_or xs j 0)
    → Ascends xs
from_places [] h = tt
from_places (x ∷ xs) h = (
  all_by_place (λ y. x < y) xs (λ i l. h 0 (suc i) (omega arith) (omega (arith, l))),
  from_places xs (λ i j l m. h (suc i) (suc j) (omega (arith, l)) (omega (arith, m))),
)

pub ascends : (xs : List ℕ) → IsStrictlyIncreasing xs → Ascends xs
ascends xs h = from_places xs (λ i j l m. AllPairs-from_increasing xs h i j 0 l m)

in_middle : (P : ℕ → Type 0) (done : List ℕ) (j : ℕ) (later : List ℕ)
    → AllByRecursion P (done ++ j ∷ later) → P j
in_middle P [] j later a = a.0
in_middle P (x ∷ done) j later a = in_middle P done j later a.1

behind_middle : (done : List ℕ) (j : ℕ) (later : List ℕ) → Ascends (done ++ j ∷ later)
    → AllByRecursion (λ y. j < y) later
behind_middle [] j later a = a.0
behind_middle (x ∷ done) j later a = behind_middle done j later a.1

-- a number that is less than one of them stands before it
pub stands_before : (done : List ℕ) (j : ℕ) (later : List ℕ) (k : ℕ) → Ascends (done ++ j ∷ later)
    → Contains (done ++ j ∷ later) k → k < j → Contains done k
stands_before done j later k a c less = go (front_or_later done (j ∷ later) k c)
  where
    not_less : Contains (j ∷ later) k → j ≤ k
    not_less (zero, l, e) = omega (arith, e)
    not_less (suc i, l, e) =
        let more : j < get_or later i k =
        All-from_recursion (λ y. j < y) later (behind_middle done j later a) i k
        (omega (arith, l)) in
        omega (arith, more, e)

    go : ((l : Contains done k) × (l.0 ≡ c.0)) ⊎ (Contains (j ∷ later) k × (length done ≤ c.0))
        → Contains done k
    go (inl (l, e)) = l
    go (inr (l, e)) = absurd (omega (arith, not_less l, less))

-- ---- lines

-- how much it counts
abbrev one_if : Bool → ℕ
one_if b = cond b 1 0

more_lines : (x : ℕ) (xs : List ℕ) (j : ℕ) → line_of (x ∷ xs) j ≡ one_if (nat_le x j) + line_of xs j
more_lines x xs j = sum_by-cons (λ k. one_if (nat_le k j)) x xs

counts : (x j : ℕ) → x ≤ j → one_if (nat_le x j) ≡ 1
counts x j h = ap one_if (le-leb x j h)

counts_not : (x j : ℕ) → j < x → one_if (nat_le x j) ≡ 0
counts_not x j h = ap one_if (lt-leb x j h)

no_line : (j : ℕ) (xs : List ℕ) → AllByRecursion (λ y. j < y) xs → line_of xs j ≡ 0
no_line j [] a = refl
no_line j (x ∷ xs) a = omega (arith, more_lines x xs j, counts_not x j a.0, no_line j xs a.1)

-- the line of a number is its place
pub line_at : (done : List ℕ) (j : ℕ) (later : List ℕ) → Ascends (done ++ j ∷ later)
    → line_of (done ++ j ∷ later) j ≡ length done + 1
line_at [] j later a =
    omega (arith, more_lines j later j, counts j j (omega arith), no_line j later a.0)
line_at (x ∷ done) j later a =
    let less : x < j = in_middle (λ y. x < y) done j later a.0 in
    omega (
      arith,
      more_lines x (done ++ j ∷ later) j,
      counts x j (omega (arith, less)),
      line_at done j later a.1,
    )

-- ---- the search of a line

pub rises : (xs : List ℕ) → IsStrictlyIncreasing xs → IsNonDecreasingBy (λ k. k) xs
rises xs h i j d low within = go (order i j low)
  where
    order : (i j : ℕ) → i ≤ j → (i < j) ⊎ (i ≡ j)
    order i j l = grind arith

    go : (i < j) ⊎ (i ≡ j) → get_or xs i d ≤ get_or xs j d
    go (inl l) =
        let less : get_or xs i d < get_or xs j d =
        AllPairs-from_increasing xs h i j d l within in omega (arith, less)
    go (inr e) =
        let same : get_or xs i d ≡ get_or xs j d = ap (λ k. get_or xs k d) e in omega (arith, same)

-- so many numbers pass the test as stand before the first that does not
pub count_point : (j : ℕ) (xs : List ℕ) (i : ℕ) → i ≤ length xs
    → IsPartitionPoint (λ k. nat_le k j ≡ true) (λ k. nat_le k j ≡ false) xs i → i ≡ line_of xs j
count_point j [] i low h = omega arith
count_point j (x ∷ xs) zero low h =
    omega (
      arith,
      more_lines x xs j,
      ap one_if (h.1 0 0 (omega arith) (omega arith)),
      count_point j xs 0 (omega arith) (
        λ k d a b. absurd (omega (arith, a, b)),
        λ k d a b. h.1 (suc k) d (omega arith) (omega (arith, b)),
      ),
    )
count_point j (x ∷ xs) (suc i) low h =
    omega (
      arith,
      more_lines x xs j,
      ap one_if (h.0 0 0 (omega arith) (omega arith)),
      count_point j xs i (omega (arith, low)) (
        λ k d a b. h.0 (suc k) d (omega arith) (omega (arith, b)),
        λ k d a b. h.1 (suc k) d (omega (arith, a)) (omega (arith, b)),
      ),
    )
